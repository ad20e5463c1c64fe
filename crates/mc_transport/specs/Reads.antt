-- A line is read only where its client is owed nothing.
use Rattle.std.specs.Prelude.{ℕ, ◌≡◌, ◌≤◌, List, length, take}
use Rattle.std.specs.List.{AllByRecursion, concat}
use Rattle.mc_wire.specs.Sink.{with_bytes}
use Rattle.mc_command.specs.declared.command.Command.{Command}
use Rattle.mc_reader.specs.Spelling.{AreCommands}
use Rattle.mc_wire.specs.Sink.{Read, Sight, with_reads}
use Rattle.mc_command.specs.declared.rules.Rules.{Rules}

-- At the time of the read all commands, by these rules, of the bytes that the line had given since its beginning were
-- taken, count of them, and the line had taken their replies, whole.
pub record OwesNothing (rules : Rules) (begin : Sight) (commands : List Command) (texts : List (List ℕ)) (read : Read) :
    Type 0 where
  pub count : ℕ
  pub within : count ≤ length texts
  pub given : List ℕ
  pub given_is : read.given ≡ with_bytes begin.given given
  pub all_taken : AreCommands rules given (take count commands)
  pub all_written : read.taken ≡ with_bytes begin.taken (concat (take count texts))

-- The line was read between begin and now only where nothing was owed. These are the commands taken and the texts of
-- their replies.
pub record ReadsOwingNothing (rules : Rules) (begin now : Sight) (commands : List Command) (texts : List (List ℕ)) :
    Type 0 where
  pub reads : List Read
  pub reads_are : now.reads ≡ with_reads begin.reads reads
  pub each : AllByRecursion (OwesNothing rules begin commands texts) reads
