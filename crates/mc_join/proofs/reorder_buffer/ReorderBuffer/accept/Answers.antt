use Rattle.std.proofs.Common.{refl, arith}
use Rattle.mc_ring.specs.Reply.{shown}
use Rattle.mc_join.proofs.Queues.{fills_numbered, fills_length}
use Rattle.mc_join.proofs.Expecting.{awaited_from, expects_from}
use Rattle.mc_join.proofs.Joins.{join_accept}
use Rattle.mc_join.proofs.reorder_buffer.ReorderBuffer.accept.Goals as goal

pub invariant_of-self : goal.invariant_of-self
invariant_of-self c =
    let same = fills_length _ _ _ _ _ c.fill.ensures.items in
    (fills_numbered _ _ _ _ _ _ c.self.invariant.0 c.fill.ensures.items, omega (arith, same, c.self.invariant.1))

pub returns-clause-joined : goal.returns-clause-joined
returns-clause-joined c =
    rw (← c.self.view_is) (join_accept _ _ (shown c.args.reply) c.in-Some.place
    (rw (← c.self.view_is) at c.in-Some.ensures.some) (rw c.into_answer.ensures at c.fill.ensures.items) refl
    c.self.invariant.0)

pub returns-clause-expected : goal.returns-clause-expected
returns-clause-expected c =
    λ opened accepted handed joined. expects_from c.args.self.now opened accepted handed (shown c.args.reply) joined
    (c.in-Some.place, c.in-Some.ensures.some)

pub returns-in_default-clause-unexpected : goal.returns-in_default-clause-unexpected
returns-in_default-clause-unexpected c =
    λ opened accepted handed joined expects. c.in_default.ensures.none
    (awaited_from c.args.self.now opened accepted handed (shown c.args.reply) joined expects)
