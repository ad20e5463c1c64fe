-- The slots taken so far, and those of the parts that are left.
use Rattle.std.proofs.Common.{◌≡◌, ◌++◌}
use Rattle.std.specs.List.{flat_map}
use Rattle.std.specs.Vec.Iter.{into_iter_items}
use Rattle.mc_serve.proofs.settling.take_apart.Given as goal

abbrev pub invariant-loop-part : goal.invariant-loop-part
invariant-loop-part g l =
    l.slots.items ++ flat_map (λ part. part.seats.all.items) (into_iter_items l.part-iterator)
    ≡ flat_map (λ part. part.seats.all.items) l.fn.parts.items
