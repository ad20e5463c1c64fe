-- Those taken so far, and those that are left.
use Rattle.std.proofs.Common.{◌≡◌, ◌++◌}
use Rattle.std.specs.Vec.Iter.{into_iter_items}
use Rattle.mc_serve.proofs.serving.take_some.Given as goal

abbrev pub invariant-loop : goal.invariant-loop
invariant-loop g l = l.some.items ++ into_iter_items l.left ≡ into_iter_items l.fn.left
