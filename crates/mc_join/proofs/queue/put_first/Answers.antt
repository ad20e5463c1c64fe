use Rattle.std.proofs.Common.{◌≡◌, ℕ, ◌+◌, List, ◌∷◌, OnErr, Result, Ok, Err, arith, rules}
use Rattle.std.specs.List.{prefix_len}
use Rattle.std.specs.Result.{IsErr}
use Rattle.std.proofs.lemmas.List.Sums.{prefix_len-le-length}
use Rattle.mc_wire.proofs.Sinks.{breaks}
use Rattle.mc_reply.specs.declared.pending_reply.PendingReply.{PendingReply}
use Rattle.mc_join.specs.Held.{IsDue}
use Rattle.mc_join.specs.Replies.{is_answered, pending_reply_text}
use Rattle.mc_reply.proofs.Texts.{part_breaks, wrote_more}
use Rattle.mc_join.proofs.Written.{reply_next, texts}
use Rattle.mc_join.proofs.queue.put_first.Goals as goal

-- one more of the answered replies at the front was passed
one_more : (count all : ℕ) (pending_reply : PendingReply) (rest pending_replies : List PendingReply) → pending_replies
    ≡ pending_reply ∷ rest → IsDue pending_reply → count + prefix_len is_answered pending_replies ≡ all
    → (count + 1) + prefix_len is_answered rest ≡ all
one_more count all pending_reply rest pending_replies first due so_far =
    let step = rw (first, due) at so_far in
    omega (arith, step)

-- of a fault this is known
at_fault : {X E : Type 0} (result : Result X E) (Known : Type 0) → IsErr result → Known → OnErr result Known
at_fault (Ok done) Known failed known = tt
at_fault (Err fault) Known failed known = known

pub loop-pending_reply-preserved : goal.loop-pending_reply-preserved
loop-pending_reply-preserved g c =
    let pending_reply = c.in-Some.pending_reply.now in
    let rest = c.next.new.self in
    let due : IsDue pending_reply = search rules in
    let first : c.loop-pending_reply.pending_reply-iterator ≡ pending_reply ∷ rest = search rules in (
      wrote_more (pending_reply_text pending_reply) (texts rest)
          (reply_next pending_reply rest _ first due c.loop-pending_reply.invariant.0) c.in_ok-put_due.ensures,
      one_more _ _ pending_reply rest _ first due c.loop-pending_reply.invariant.1,
    )

pub returns-in_err-put_due-clause-writes : goal.returns-in_err-put_due-clause-writes
returns-in_err-put_due-clause-writes g c =
    let pending_reply = c.in-Some.pending_reply.now in
    let rest = c.next.new.self in
    let due : IsDue pending_reply = search rules in
    breaks _ c.from_residual.result _ _ c.from_residual.ensures.0
    (part_breaks (pending_reply_text pending_reply) (texts rest)
    (reply_next pending_reply rest _ c.in-Some.ensures.steps due c.loop-pending_reply.invariant.0)
    c.in_err-put_due.ensures)

pub returns-in_err-put_due-clause-owed : goal.returns-in_err-put_due-clause-owed
returns-in_err-put_due-clause-owed g c =
    let pending_reply = c.in-Some.pending_reply.now in
    let due : IsDue pending_reply = search rules in
    let step = one_more _ _ pending_reply c.next.new.self _ c.in-Some.ensures.steps due c.loop-pending_reply.invariant.1
    in
    at_fault c.from_residual.result _ c.from_residual.ensures.0 (omega (arith, step))

pub returns-then-not-is_complete-clause-within : goal.returns-then-not-is_complete-clause-within
returns-then-not-is_complete-clause-within g c =
    omega (arith, prefix_len-le-length is_answered c.args.pending_replies.now.items, c.loop-pending_reply.invariant.1)

pub overflow_add-count : goal.overflow_add-count
overflow_add-count g c =
    let pending_reply = c.in-Some.pending_reply.now in
    let due : IsDue pending_reply = search rules in
    let step = one_more _ _ pending_reply c.next.new.self _ c.in-Some.ensures.steps due c.loop-pending_reply.invariant.1
    in
    let below = prefix_len-le-length is_answered c.args.pending_replies.now.items in
    omega (arith, below, step, c.len-len.ensures.len, c.len-len.ensures.within.0, c.len-len.ensures.within.1)

pub returns-clause-within : goal.returns-clause-within
returns-clause-within g c =
    omega (arith, prefix_len-le-length is_answered c.args.pending_replies.now.items, c.loop-pending_reply.invariant.1)
