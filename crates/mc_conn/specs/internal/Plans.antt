-- How a command is planned: whole, or as given up where memory runs out.
use Rattle.std.specs.Prelude.{ℕ, ◌≡◌, Bool, List, ◌++◌, IsTrue, if◌then◌else◌}
use Rattle.mc_command.specs.declared.command.Command.{Command}
use Rattle.mc_command.specs.declared.command.Command.TheVariants.{Refused}
use Rattle.mc_command.specs.declared.error.CommandError.TheVariants.{Memory}
use Rattle.mc_command.specs.Command.{can_give_up}
use Rattle.mc_reply.specs.declared.pending_reply.PendingReply.{PendingReply}
use Rattle.mc_split.specs.declared.plan.Piece.{Piece}
use Rattle.mc_reply.specs.declared.ticket.Ticket.{Ticket}
use Rattle.mc_split.specs.Pieces.{pieces_of}
use Rattle.mc_split.specs.Plan.{pending_reply_of, parts_from}

abbrev pub unless_given_up : Bool → Command → Command
unless_given_up given_up command = if given_up then Refused Memory else command

-- This is carried out, the command, or the refusal where it was given up; the pending reply is that of its reply, and
-- its pieces are behind the others.
pub record Plans (shards : ℕ) (ticket : Ticket) (moment : ℕ) (command carried : Command) (pending_reply : PendingReply)
    (before after : List (ℕ × Piece)) : Type 0 where
  pub given_up : Bool
  pub may : IsTrue given_up → IsTrue (can_give_up command)
  pub carried_is : carried ≡ unless_given_up given_up command
  pub pending_reply_is : pending_reply ≡ pending_reply_of shards ticket carried
  pub unsent : after ≡ before ++ parts_from 0 ticket moment (pieces_of shards carried)
