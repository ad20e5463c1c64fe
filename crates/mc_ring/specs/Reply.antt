-- What two replies are compared by.
use Rattle.std.specs.Prelude.{ℕ}
use Rattle.mc_item.specs.declared.answer.Answer.{Answer}
use Rattle.mc_item.specs.declared.answer.Kind.{Kind}
use Rattle.mc_reply.specs.declared.ticket.Ticket.{Ticket}
use Rattle.mc_ring.specs.declared.reply.Reply.{Reply}

-- the plain fields of a reply
pub record Shown : Type 0 where
  pub ticket : Ticket
  pub part : ℕ
  pub kind : Kind
  pub answer : Answer

-- A reply also holds a proof that its answer is lawful, so replies are compared by what they show.
abbrev pub shown : Reply → Shown
shown reply = record { ticket = reply.ticket; part = reply.part; kind = reply.kind; answer = reply.answer }
