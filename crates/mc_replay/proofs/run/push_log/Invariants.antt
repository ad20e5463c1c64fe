-- The text has the lines of the entries so far.
use Rattle.std.proofs.Common.{◌≡◌, ◌++◌, take}
use Rattle.std.specs.List.{flat_map}
use Rattle.mc_replay.specs.Report.{entry_line}
use Rattle.mc_replay.proofs.run.push_log.Given as goal

abbrev pub invariant-loop-entry : goal.invariant-loop-entry
invariant-loop-entry l = l.text.items ≡ l.fn.text.items ++ flat_map entry_line (take l.entry-index l.log)
