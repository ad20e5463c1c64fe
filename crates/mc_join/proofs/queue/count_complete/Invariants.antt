-- The pending replies passed, count of them, and the answered ones at the front of the rest are as many as at the front
-- of all.
use Rattle.std.proofs.Common.{◌≡◌, ◌+◌}
use Rattle.std.specs.List.{prefix_len}
use Rattle.mc_join.specs.Replies.{is_answered}
use Rattle.mc_join.proofs.queue.count_complete.Given as goal

abbrev pub invariant-loop-pending_reply : goal.invariant-loop-pending_reply
invariant-loop-pending_reply l =
    l.count + prefix_len is_answered l.pending_reply-iterator ≡ prefix_len is_answered l.pending_replies.items
