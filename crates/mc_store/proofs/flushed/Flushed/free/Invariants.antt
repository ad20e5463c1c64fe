use Rattle.std.proofs.Common.{◌≡◌, ◌-◌}
use Rattle.mc_store.proofs.flushed.Flushed.free.Given as goal

-- As many are freed as there were turns of the loop.
abbrev pub invariant-loop : goal.invariant-loop
invariant-loop g l = l.self ≡ l.fn.self - l.counter
