-- The ways made so far.
use Rattle.std.proofs.Common.{◌≡◌, length}
use Rattle.mc_serve.proofs.tcp.ways_to.Given as goal

abbrev pub invariant-loop : goal.invariant-loop
invariant-loop l = length l.handoffs.items ≡ l.counter
