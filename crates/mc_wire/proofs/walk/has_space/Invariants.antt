-- What was found so far is whether a space is among the bytes so far.
use Rattle.std.proofs.Common.{◌≡◌, take, drop}
use Rattle.std.specs.List.{list_any}
use Rattle.mc_wire.specs.Words.{is_space}
use Rattle.mc_wire.proofs.walk.has_space.Given as goal

abbrev pub invariant-loop-i : goal.invariant-loop-i
invariant-loop-i l = l.found ≡ list_any is_space (take l.i (drop l.from l.text))
