-- The slots of one part more are taken.
use Rattle.std.proofs.Common.{◌≡◌, [], ap, rules}
use Rattle.std.specs.Vec.Iter.{into_iter_items}
use Rattle.mc_serve.proofs.Zipped.{empty_when}
use Rattle.mc_serve.proofs.Parts.{flat_last, flat_next}
use Rattle.mc_serve.proofs.settling.take_apart.Goals as goal

pub loop-part-preserved : goal.loop-part-preserved
loop-part-preserved g c =
    flat_next c.loop-part.slots.items _ c.into_seats-own.result.items (λ part. part.seats.all.items) c.in-Some.part _ _
    _ (search rules) (ap (λ all. all.items) c.into_seats-own.ensures) c.in-Some.ensures.steps.0 c.loop-part.invariant

pub returns : goal.returns
returns g c =
    let none : into_iter_items c.loop-part.part-iterator ≡ [] = empty_when _ (search rules) in
    flat_last c.loop-part.slots.items (λ part. part.seats.all.items) _ _ none c.loop-part.invariant
