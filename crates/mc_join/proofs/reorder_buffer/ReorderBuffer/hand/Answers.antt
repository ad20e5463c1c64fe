use Rattle.std.proofs.Common.{refl, ap, ◌∙◌, length, length-drop, arith}
use Rattle.mc_join.specs.Replies.{complete}
use Rattle.mc_join.proofs.Joins.{due_unhanded, join_hand, join_none, none_complete, owes_some}
use Rattle.mc_join.proofs.Queues.{numbered_drop}
use Rattle.mc_join.proofs.reorder_buffer.ReorderBuffer.hand.Goals as goal

pub returns-in-Err-clause-turn : goal.returns-in-Err-clause-turn
returns-in-Err-clause-turn g c =
    λ opened accepted handed there. due_unhanded c.args.self.now there opened accepted handed

pub returns-clause-turn : goal.returns-clause-turn
returns-clause-turn g c = λ opened accepted handed there. due_unhanded c.args.self.now there opened accepted handed

pub invariant_of-self-2 : goal.invariant_of-self-2
invariant_of-self-2 g c =
    let items = c.self.inside.pending_replies.items in
    let count = c.in-Ok.count in
    let within = c.in-Ok.ensures.within in
    let left = c.drop_first.ensures.items in
    let numbered = numbered_drop c.self.inside.handed count items c.self.invariant.0 within in
    (rw left numbered, omega (arith, ap length left, length-drop count items, within, c.self.invariant.1))

pub returns-clause-none_left : goal.returns-clause-none_left
returns-clause-none_left g c =
    λ _. ap (λ fs. complete fs) c.drop_first.ensures.items
    ∙ none_complete c.self.inside.pending_replies.items c.in-Ok.count
    c.in-Ok.ensures.count

pub returns-clause-joined : goal.returns-clause-joined
returns-clause-joined g c =
    rw (← c.self.view_is) (λ _. join_hand _ _ c.in-Ok.count c.in-Ok.ensures.count refl
    c.drop_first.ensures.items)

pub returns-then-count-eq0-clause-turn : goal.returns-then-count-eq0-clause-turn
returns-then-count-eq0-clause-turn g c =
    λ opened accepted handed there. due_unhanded c.args.self.now there opened accepted handed

pub returns-then-count-eq0-clause-joined : goal.returns-then-count-eq0-clause-joined
returns-then-count-eq0-clause-joined g c =
    rw (← c.self.view_is) (λ _. join_none _ c.in-Ok.count c.in-Ok.ensures.count
    c.if-count-eq0.true)

pub returns-in-Err-clause-owed : goal.returns-in-Err-clause-owed
returns-in-Err-clause-owed g c =
    rw (← c.self.view_is) (owes_some _ c.in-Err.ensures.owed)
