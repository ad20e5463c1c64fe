-- The sink took the parts so far.
use Rattle.std.proofs.Common.{◌≡◌, take}
use Rattle.std.specs.List.{flat_map}
use Rattle.mc_wire.specs.Sink.{took}
use Rattle.mc_wire.proofs.sink.put_parts.Given as goal

abbrev pub invariant-loop-part : goal.invariant-loop-part
invariant-loop-part g l =
    g.O.Sink.sight l.out ≡ took (flat_map (λ part. part.now) (take l.part-index l.parts)) (g.O.Sink.sight l.fn.out)
