-- The history of a connection: the commands that it took, and what became of each.
use Rattle.std.specs.Prelude.{ℕ, ◌≡◌, Bool, false, List, [], map, length, IsTrue, MatchBool, if◌then◌else◌}
use Rattle.std.specs.List.{flat_map}
use Rattle.mc_command.specs.declared.command.Command.{Command}
use Rattle.mc_command.specs.declared.command.Command.TheVariants.{Refused}
use Rattle.mc_command.specs.declared.error.CommandError.TheVariants.{Memory}
use Rattle.mc_command.specs.Command.{can_give_up}
use Rattle.mc_item.specs.declared.answer.Answer.{Answer}
use Rattle.mc_split.specs.Pieces.{pieces_of}
use Rattle.mc_reply.specs.declared.server_stats.ServerStats.{ServerStats}
use Rattle.mc_reply.specs.Server.{no_server, shows_server}
use Rattle.mc_reply.specs.Text.{memory_line, text_of}

-- a command that was taken
pub record Taken : Type 0 where
  -- what the bytes read spell
  pub entry : Command
  -- when it was taken, in seconds since 1970
  pub moment : ℕ
  -- what was known of the server then; only the reply to `stats` shows it
  pub server : ServerStats
  -- whether it was given up because memory ran out, before a shard was asked
  pub given_up : Bool

-- what is carried out: the command, or the refusal "out of memory" where it was given up
abbrev pub planned : Taken → Command
planned taken = if taken.given_up then Refused Memory else taken.entry

-- of a server what the reply to a command shows: all where it is `stats`, else nothing
abbrev pub shown_server : Command → ServerStats → ServerStats
shown_server command server = if shows_server command then server else no_server

-- a command that is carried out at this moment, by this server
abbrev pub carrying_out : ℕ → ServerStats → Command → Taken
carrying_out moment server command =
    record { entry = command; moment = moment; server = shown_server command server; given_up = false }

-- a command that was taken, as it is carried out: where it was given up, the refusal is in its place
abbrev pub carried_out : Taken → Taken
carried_out one = carrying_out one.moment one.server (planned one)

-- A command is given up only where it may be: it asks a shard, or is refused and more of it is read.
abbrev pub MayBeTaken : Taken → Type 0
MayBeTaken taken = IsTrue taken.given_up → IsTrue (can_give_up taken.entry)

-- a command that was taken, with its answers
pub record AnsweredCommand : Type 0 where
  pub entry : Command
  pub moment : ℕ
  pub server : ServerStats
  pub given_up : Bool
  -- what the shards answered to its pieces, in their order; none where it was given up
  pub answers : List Answer

abbrev pub taken_of : AnsweredCommand → Taken
taken_of done = record { entry = done.entry; moment = done.moment; server = done.server; given_up = done.given_up }

abbrev pub entries_of : List AnsweredCommand → List Command
entries_of history = map (λ done. done.entry) history

-- the reply to a command that was taken; to one that was given up it is the line "out of memory", also where the
-- command is itself a refusal (protocol.txt, "Error strings")
abbrev pub text_done : AnsweredCommand → List ℕ
text_done done = if done.given_up then memory_line else text_of done.server done.entry done.answers

abbrev pub texts_of : List AnsweredCommand → List ℕ
texts_of history = flat_map text_done history

-- A command that was given up may be, and asks no shard; each piece of any other has its answer.
abbrev pub IsAnswered : ℕ → AnsweredCommand → Type 0
IsAnswered shards done =
    MatchBool done.given_up
    (IsTrue (can_give_up done.entry) × (done.answers ≡ []))
    (length done.answers ≡ length (pieces_of shards done.entry))
