-- All was written but the replies of the pending replies that are left. Those passed, count of them, and the answered
-- ones at the front of the rest are as many as at the front of all.
use Rattle.std.proofs.Common.{◌≡◌, ◌+◌, map}
use Rattle.std.specs.List.{concat, prefix_len}
use Rattle.mc_join.specs.Replies.{complete, is_answered, pending_reply_text}
use Rattle.mc_reply.proofs.Texts.{WroteBut}
use Rattle.mc_join.proofs.queue.put_first.Given as goal

abbrev pub invariant-loop-pending_reply : goal.invariant-loop-pending_reply
invariant-loop-pending_reply g l =
    WroteBut (concat (map pending_reply_text (complete l.pending_replies.items)))
    (concat (map pending_reply_text (complete l.pending_reply-iterator))) (g.O.Sink.sight l.fn.out)
    (g.O.Sink.sight l.out)
    × (l.count + prefix_len is_answered l.pending_reply-iterator ≡ prefix_len is_answered l.pending_replies.items)
