-- What holds of the pieces of every command, and of the reply to the answers that they get.
use Rattle.std.specs.Prelude.{ℕ, ◌≡◌, ◌<◌, List, length, map, IfSome, true, ◌↔◌, [], ◌∷◌, IsTrue}
use Rattle.std.specs.List.{AllByRecursion, range_with_len}
use Rattle.mc_wire.specs.Key.{place_of}
use Rattle.mc_command.specs.declared.command.Command.{Command}
use Rattle.mc_item.specs.Kind.{key_of, kind_of, is_lawful}
use Rattle.mc_reply.specs.declared.ticket.Ticket.{Ticket}
use Rattle.mc_split.specs.Pieces.{ShardOp, pieces_of}
use Rattle.mc_split.specs.Plan.{pending_reply_of, parts_from}
use Rattle.mc_command.specs.declared.meta.ReturnFlag.{ReturnFlag}
use Rattle.mc_command.specs.FlagOrder.{with_returned}
use Rattle.mc_item.specs.declared.answer.Answer.{Answer}
use Rattle.mc_reply.specs.declared.server_stats.ServerStats.{ServerStats}
use Rattle.mc_reply.specs.Text.{text_of}
use Rattle.mc_reply.specs.TextLaws.{is_silent, loud}

-- The parts of a command are 0, 1, 2 and so on, in the order of its pieces.
abbrev pub NumbersParts : Type 0
NumbersParts = (ticket : Ticket) (moment : ℕ) (asked : List ShardOp) →
    map (λ sent. sent.1.part) (parts_from 0 ticket moment asked) ≡ range_with_len 0 (length asked)

-- A piece is for the shard of the key that it asks for.
abbrev pub AsksShardOfKey : Type 0
AsksShardOfKey = (shards : ℕ) (command : Command) →
    AllByRecursion (λ asked. IfSome (key_of asked.op) (λ key. asked.shard ≡ place_of key shards))
    (pieces_of shards command)

-- Every shard that is asked is there.
abbrev pub AsksShardsWithin : Type 0
AsksShardsWithin = (shards : ℕ) → 0 < shards → (command : Command) →
    AllByRecursion (λ asked. asked.shard < shards) (pieces_of shards command)

-- All pieces of a command are of one kind, that of its pending reply.
abbrev pub AsksOneKind : Type 0
AsksOneKind = (shards : ℕ) (ticket : Ticket) (command : Command) →
    AllByRecursion (λ asked. kind_of asked.op ≡ (pending_reply_of shards ticket command).kind)
    (pieces_of shards command)

-- Each piece has one answer, which is lawful for its kind.
abbrev pub AnswersTo : List ShardOp → List Answer → Type 0
AnswersTo [] [] = Unit {0}
AnswersTo [] (answer ∷ answers) = ⊥
AnswersTo (asked ∷ pieces) [] = ⊥
AnswersTo (asked ∷ pieces) (answer ∷ answers) = (is_lawful (kind_of asked.op) answer ≡ true) × AnswersTo pieces answers

-- The reply to a command is empty just where it is silent.
abbrev pub IsEmptyWhereSilent : Type 0
IsEmptyWhereSilent = (server : ServerStats) (shards : ℕ) → 0 < shards → (command : Command) (answers : List Answer) →
    AnswersTo (pieces_of shards command) answers → (text_of server command answers ≡ [])
    ↔ IsTrue (is_silent command answers)

-- A quiet command asks the same of the same shards as the loud one.
abbrev pub AsksAsLoud : Type 0
AsksAsLoud = (shards : ℕ) (command : Command) → pieces_of shards command ≡ pieces_of shards (loud command)

-- With other flags to return, or in another order, a command asks the same of the same shards.
abbrev pub AsksAlike : Type 0
AsksAlike =
    (shards : ℕ) (command : Command) (returned : List ReturnFlag) → pieces_of shards command
    ≡ pieces_of shards (with_returned command returned)
