use Rattle.std.proofs.Common.{refl, sym}
use Rattle.std.proofs.lemmas.Bool.{false≢true}
use Rattle.mc_ring.specs.Reply.{shown}
use Rattle.circular_buffer.proofs.Places.{slice_get-some}
use Rattle.mc_join.proofs.Queues.{unopened, unwanted, awaits_at}
use Rattle.mc_join.proofs.reorder_buffer.ReorderBuffer.awaiting.Goals as goal

pub returns-in_err-place-clause-none : goal.returns-in_err-place-clause-none
returns-in_err-place-clause-none c =
    rw c.from_residual.ensures (unopened c.args.self.now (shown c.args.reply.now) c.in_err-place.ensures.numbered
    c.in_err-place.ensures.none)

pub returns-in_err-pending_reply-clause-none : goal.returns-in_err-pending_reply-clause-none
returns-in_err-pending_reply-clause-none c =
    let there = slice_get-some c.self.inside.pending_replies.items c.in_ok-place.place
    (rw (← c.self.view_is) at c.in_ok-place.ensures.some.0) in
    absurd (cc (there.1, c.in_err-pending_reply.ensures))

pub returns-then-awaits-clause-some : goal.returns-then-awaits-clause-some
returns-then-awaits-clause-some c =
    let at = (rw (← c.self.view_is) at c.in_ok-place.ensures.some.1) in
    let here = c.in_ok-pending_reply.ensures in
    rw (← c.self.view_is) (awaits_at _ (shown c.args.reply.now) c.in_ok-place.place
    c.in_ok-pending_reply.pending_reply.now c.self.invariant.0 at (sym here) (c.if-awaits.ensures.0 refl))

pub returns-else-awaits-clause-none : goal.returns-else-awaits-clause-none
returns-else-awaits-clause-none c =
    let at = (rw (← c.self.view_is) at c.in_ok-place.ensures.some.1) in
    let here = c.in_ok-pending_reply.ensures in
    rw (← c.self.view_is) (unwanted _ (shown c.args.reply.now) c.in_ok-place.place
    c.in_ok-pending_reply.pending_reply.now c.self.invariant.0 at (sym here)
    (λ w. false≢true (c.if-awaits.ensures.1 w)))
