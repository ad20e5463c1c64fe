use Rattle.std.proofs.Common.{◌≡◌, ◌∷◌, arith, rules}
use Rattle.std.proofs.lemmas.List.Sums.{prefix_len-le-length}
use Rattle.mc_join.specs.Held.{IsDue}
use Rattle.mc_join.specs.Replies.{is_answered}
use Rattle.mc_join.proofs.queue.count_complete.Goals as goal

pub returns-then-not-is_complete-clause-within : goal.returns-then-not-is_complete-clause-within
returns-then-not-is_complete-clause-within c =
    omega (arith, prefix_len-le-length is_answered c.args.pending_replies.now.items, c.loop-pending_reply.invariant)

pub overflow_add-count : goal.overflow_add-count
overflow_add-count c =
    let pending_reply = c.in-Some.pending_reply.now in
    let due : IsDue pending_reply = search rules in
    let first : c.loop-pending_reply.pending_reply-iterator ≡ pending_reply ∷ c.next.new.self = search rules in
    let step = rw (first, due) at c.loop-pending_reply.invariant in
    let below = prefix_len-le-length is_answered c.args.pending_replies.now.items in
    omega (arith, below, step, c.len-len.ensures.len, c.len-len.ensures.within.0, c.len-len.ensures.within.1)

pub returns-clause-within : goal.returns-clause-within
returns-clause-within c =
    omega (arith, prefix_len-le-length is_answered c.args.pending_replies.now.items, c.loop-pending_reply.invariant)
