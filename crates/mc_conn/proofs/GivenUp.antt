-- When a command may be given up, and what is planned then.
use Rattle.std.proofs.Common.{◌≡◌, ℕ, true, List, IsTrue, refl, sym, ◌∙◌, append-nil}
use Rattle.mc_command.specs.declared.command.Command.{Command}
use Rattle.mc_command.specs.declared.command.Command.TheVariants as command
use Rattle.mc_command.specs.declared.error.CommandError.TheVariants.{Memory}
use Rattle.mc_command.specs.Command.{can_give_up}
use Rattle.mc_reply.specs.declared.pending_reply.PendingReply.{PendingReply}
use Rattle.mc_split.specs.declared.plan.Piece.{Piece}
use Rattle.mc_reply.specs.declared.ticket.Ticket.{Ticket}
use Rattle.mc_split.specs.Pieces.{pieces_of}
use Rattle.mc_split.specs.Plan.{pending_reply_of}
use Rattle.mc_conn.specs.internal.Plans.{Plans}

-- A refusal asks no shard.
pub plans_refusal : (shards : ℕ) (ticket : Ticket) (moment : ℕ) (asked : Command) (pending_reply : PendingReply)
    (before after : List (ℕ × Piece)) → IsTrue (can_give_up asked) →
    pending_reply ≡ pending_reply_of shards ticket (command.Refused Memory) → after ≡ before
    → Plans shards ticket moment asked (command.Refused Memory) pending_reply before after
unfolding pieces_of
plans_refusal shards ticket moment asked pending_reply before after may pending_reply_is same =
    record {
      given_up = true;
      may = λ _. may;
      carried_is = refl;
      pending_reply_is = pending_reply_is;
      unsent = same ∙ sym (append-nil before);
    }
