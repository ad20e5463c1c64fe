-- The sink took a front of the bytes, and the rest is left.
use Rattle.std.proofs.Common.{◌≡◌, length, drop}
use Rattle.mc_wire.proofs.Sinks.{TookFront}
use Rattle.mc_wire.proofs.sink.write_all.Given as goal

abbrev pub invariant-loop-rest : goal.invariant-loop-rest
invariant-loop-rest g l =
    (front : TookFront l.bytes (g.O.Sink.sight l.fn.out) (g.O.Sink.sight l.out)) × (l.rest ≡ drop front.count l.bytes)

abbrev pub decreases-loop-rest : goal.decreases-loop-rest
decreases-loop-rest g l = length l.rest
