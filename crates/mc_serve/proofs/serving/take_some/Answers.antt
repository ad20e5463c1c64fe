-- One more is taken.
use Rattle.std.proofs.Common.{◌∷◌, [], ◌++◌, ap, ◌∙◌, append_assoc}
use Rattle.std.specs.Vec.Iter.{into_iter_items}
use Rattle.mc_serve.proofs.serving.take_some.Goals as goal

pub loop-preserved : goal.loop-preserved
loop-preserved g c =
    let step = c.in-Some.ensures.cases in
    ap (λ xs. xs ++ into_iter_items c.next.new.self) c.in_ok-push.ensures.items
    ∙ (append_assoc c.loop.some.items (c.in-Some.one ∷ []) (into_iter_items c.next.new.self)
    ∙ (rw step.0 at c.loop.invariant))
