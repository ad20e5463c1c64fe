-- Which replies of shards are expected, from the pending replies opened and the replies accepted.
use Rattle.std.specs.Prelude.{◌≡◌, List, Some, None}
use Rattle.std.specs.List.{slice_get}
use Rattle.mc_ring.specs.Reply.{Shown}
use Rattle.mc_reply.specs.declared.pending_reply.PendingReply.{PendingReply}
use Rattle.mc_join.specs.Replies.{answered}

-- The command of the reply's ticket was parsed; it has this part, which is not answered yet, and is of the
-- reply's kind.
pub record Expects (opened : List PendingReply) (accepted : List Shown) (reply : Shown) : Type 0 where
  pub pending_reply : PendingReply
  pub here : slice_get opened reply.ticket.0 ≡ Some pending_reply
  pub unanswered : slice_get (answered accepted pending_reply).slots reply.part ≡ Some None
  pub kind : pending_reply.kind ≡ reply.kind
