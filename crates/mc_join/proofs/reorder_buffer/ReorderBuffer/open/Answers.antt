use Rattle.std.proofs.Common.{◌≡◌, ◌+◌, length, ◌∷◌, [], refl, arith, length-append, ap, ◌∙◌}
use Rattle.mc_join.proofs.Queues.{numbered_more}
use Rattle.mc_join.proofs.Joins.{join_open}
use Rattle.mc_join.proofs.reorder_buffer.ReorderBuffer.open.Goals as goal

pub invariant_of-self-2 : goal.invariant_of-self-2
invariant_of-self-2 c =
    let added = c.if-not-add.ensures.added refl in
    let number = rw (← c.self.view_is) at c.requires in
    let pending_replies = c.self.inside.pending_replies.items in
    let longer : length c.add.new.pending_replies.items ≡ length pending_replies + 1 = ap length added
    ∙ length-append pending_replies (c.args.pending_reply ∷ []) in (
      rw added (numbered_more c.self.inside.handed pending_replies c.args.pending_reply c.self.invariant.0 number),
      omega (arith, longer, number),
    )

pub returns-clause-joined : goal.returns-clause-joined
returns-clause-joined c =
    let added = c.if-not-add.ensures.added refl in
    let number = rw (← c.self.view_is) at c.requires in
    rw (← c.self.view_is) (join_open _ _ c.args.pending_reply number refl added)
