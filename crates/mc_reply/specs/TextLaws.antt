-- Laws of the texts of all replies.
use Rattle.std.specs.Prelude.{ℕ, ◌≡◌, Bool, true, false, ◌&&◌, ◌⊎◌, List, [], ◌∷◌, ◌++◌}
use Rattle.std.specs.List.{flat_map}
use Rattle.std.specs.List.Sorted.{IsPermutation}
use Rattle.mc_command.specs.declared.command.Command.{Command}
use Rattle.mc_command.specs.declared.command.Command.TheVariants as command
use Rattle.mc_command.specs.declared.meta.MetaFlags.{MetaFlags}
use Rattle.mc_command.specs.declared.meta.ReturnFlag.{ReturnFlag}
use Rattle.mc_command.specs.declared.error.CommandError.{CommandError}
use Rattle.mc_command.specs.declared.error.CommandError.TheVariants as refusal
use Rattle.mc_command.specs.FlagOrder.{returned_in, with_returned}
use Rattle.mc_item.specs.declared.answer.Answer.{Answer}
use Rattle.mc_command.specs.declared.meta.MetaKind.{MetaKind}
use Rattle.mc_command.specs.declared.meta.MetaKind.TheVariants as kind
use Rattle.mc_reply.specs.declared.server_stats.ServerStats.{ServerStats}
use Rattle.mc_reply.specs.Server.{shows_server}
use Rattle.mc_reply.specs.Text.{is_hidden, text_of}

-- the flag `q` is set and hides the answer
abbrev pub hides : MetaKind → MetaFlags → Bool → List Answer → Bool
hides kind flags value [] = false
hides kind flags value (answer ∷ answers) = flags.quiet && is_hidden kind value answer

-- The refusal is not reported.
abbrev pub is_hidden_refusal : CommandError → Bool
is_hidden_refusal refusal.Hidden = true
is_hidden_refusal refused = false

-- The command has no reply: `quit` and `shutdown`, with `noreply`, or if `q` hides the answer. A refusal that isn't
-- hidden is always reported, and so is a get.
abbrev pub is_silent : Command → List Answer → Bool
is_silent (command.Store storage) answers = storage.noreply
is_silent (command.Get retrieval) answers = false
is_silent (command.Delete key noreply) answers = noreply
is_silent (command.Count key direction amount noreply) answers = noreply
is_silent (command.Touch key exptime noreply) answers = noreply
is_silent (command.FlushAll delay noreply) answers = noreply
is_silent (command.Version profile) answers = false
is_silent (command.Verbosity noreply) answers = noreply
is_silent (command.Stats asked) answers = false
is_silent command.Quit answers = true
is_silent command.Shutdown answers = true
is_silent command.MetaNoop answers = false
is_silent (command.MetaGet get) answers = hides kind.Get get.flags get.value answers
is_silent (command.MetaSet set) answers = hides kind.Set set.flags false answers
is_silent (command.MetaDelete delete) answers = hides kind.Delete delete.flags false answers
is_silent (command.MetaArithmetic arithmetic) answers = hides kind.Arithmetic arithmetic.flags arithmetic.value answers
is_silent (command.Refused refused) answers = is_hidden_refusal refused
is_silent (command.Discard key refused) answers = is_hidden_refusal refused

-- the flags without `q`
abbrev pub without_quiet : MetaFlags → MetaFlags
without_quiet flags = record flags { quiet = false }

-- the command without `noreply` and without `q`
abbrev pub loud : Command → Command
loud (command.Store storage) = command.Store (record storage { noreply = false })
loud (command.Get retrieval) = command.Get retrieval
loud (command.Delete key noreply) = command.Delete key false
loud (command.Count key direction amount noreply) = command.Count key direction amount false
loud (command.Touch key exptime noreply) = command.Touch key exptime false
loud (command.FlushAll delay noreply) = command.FlushAll delay false
loud (command.Version profile) = command.Version profile
loud (command.Verbosity noreply) = command.Verbosity false
loud (command.Stats asked) = command.Stats asked
loud command.Quit = command.Quit
loud command.Shutdown = command.Shutdown
loud command.MetaNoop = command.MetaNoop
loud (command.MetaGet get) = command.MetaGet (record get { flags = without_quiet get.flags })
loud (command.MetaSet set) = command.MetaSet (record set { flags = without_quiet set.flags })
loud (command.MetaDelete delete) = command.MetaDelete (record delete { flags = without_quiet delete.flags })
loud (command.MetaArithmetic arithmetic) =
    command.MetaArithmetic (record arithmetic { flags = without_quiet arithmetic.flags })
loud (command.Refused refusal) = command.Refused refusal
loud (command.Discard key refusal) = command.Discard key refusal

-- The reply to a quiet command is empty or equal to that of the loud one, whatever the answers are.
abbrev pub IsEmptyOrLoud : Type 0
IsEmptyOrLoud = (server : ServerStats) (command : Command) (answers : List Answer) →
    (text_of server command answers ≡ []) ⊎ (text_of server command answers ≡ text_of server (loud command) answers)

-- Two texts are equal but for the order of the texts of some flags.
pub record DiffersInOrder (flags others : List ReturnFlag) (text other : List ℕ) : Type 0 where
  pub before : List ℕ
  pub behind : List ℕ
  pub one : ReturnFlag → List ℕ
  pub text_is : text ≡ before ++ (flat_map one flags ++ behind)
  pub other_is : other ≡ before ++ (flat_map one others ++ behind)

-- Another order of the flags changes only the order of the returned ones.
abbrev pub OrdersFlags : Type 0
OrdersFlags =
    (server : ServerStats) (command : Command) (returned : List ReturnFlag)
    → IsPermutation (returned_in command) returned → (answers : List Answer) →
    DiffersInOrder (returned_in command) returned (text_of server command answers)
    (text_of server (with_returned command returned) answers)

-- Only the reply to `stats` depends on what is known of the server.
abbrev pub ShowsServerByStats : Type 0
ShowsServerByStats = (server other : ServerStats) (command : Command) (answers : List Answer) →
    shows_server command ≡ false → text_of server command answers ≡ text_of other command answers
