-- No space is in the front that was passed over.
use Rattle.std.proofs.Common.{◌≡◌, ◌≤◌, ◌-◌, false, take, length}
use Rattle.std.specs.List.{list_any}
use Rattle.mc_wire.specs.Words.{is_space}
use Rattle.mc_wire.proofs.walk.front_without_space.Given as goal

abbrev pub invariant-loop-passed : goal.invariant-loop-passed
invariant-loop-passed l = record {
  within : l.passed ≤ length l.text;
  none : list_any is_space (take l.passed l.text) ≡ false;
}

abbrev pub decreases-loop-passed : goal.decreases-loop-passed
decreases-loop-passed l = length l.text - l.passed
