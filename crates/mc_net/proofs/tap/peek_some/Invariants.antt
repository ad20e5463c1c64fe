-- Looking takes nothing from the stream.
use Rattle.std.proofs.Common.{◌≡◌, length}
use Rattle.mc_net.proofs.tap.peek_some.Given as goal

abbrev pub invariant-loop : goal.invariant-loop
invariant-loop g l = length l.room ≡ length l.initial.room
