-- The sink took a front of the block, and the rest is left.
use Rattle.std.proofs.Common.{◌≡◌, length, drop}
use Rattle.mc_wire.proofs.Sinks.{TookFront}
use Rattle.mc_wire.proofs.sink.Sink.put_shared.Given as goal

abbrev pub invariant-loop-left : goal.invariant-loop-left
invariant-loop-left g l =
    (front : TookFront l.block (g.Self.Sink.sight l.fn.self) (g.Self.Sink.sight l.self))
    × (l.left ≡ drop front.count l.block)

abbrev pub decreases-loop-left : goal.decreases-loop-left
decreases-loop-left g l = length l.left
