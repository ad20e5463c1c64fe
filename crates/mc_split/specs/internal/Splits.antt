-- What the parts of the planner promise of the pieces and the pending reply that they make.
use Rattle.std.specs.Prelude.{ℕ, ◌≡◌, ◌<◌, List, ◌++◌, Result, IfOk, OnOk, OnErr, length}
use Rattle.mc_item.specs.declared.memory.NoMemory.{NoMemory}
use Rattle.mc_reply.specs.declared.pending_reply.PendingReply.{PendingReply}
use Rattle.mc_reply.specs.declared.pending_reply.ReplyKind.{ReplyKind}
use Rattle.mc_split.specs.declared.plan.Piece.{Piece}
use Rattle.mc_reply.specs.declared.ticket.Ticket.{Ticket}
use Rattle.mc_split.specs.Pieces.{ShardOp}
use Rattle.mc_split.specs.Plan.{pending_reply_with, parts_from}

-- These pieces are behind the others, and the pending reply awaits an answer to each. Where memory runs out, which it
-- does for a command that asks a shard alone, nothing changed.
pub record Splits (result : Result PendingReply NoMemory) (ticket : Ticket) (moment : ℕ) (reply_kind : ReplyKind)
    (asked : List ShardOp) (old new : List (ℕ × Piece)) : Type 0 where
  pub pending_reply : IfOk result (λ pending_reply. pending_reply ≡ pending_reply_with ticket reply_kind asked)
  pub pieces : OnOk result (new ≡ old ++ parts_from 0 ticket moment asked)
  pub unchanged : OnErr result (new ≡ old)
  pub asks : OnErr result (0 < length asked)
