-- The contents of a reorder buffer, and which replies it expects.
use Rattle.std.specs.Prelude.{ℕ, ◌≡◌, ◌+◌, ◌<◌, Bool, true, false, List, [], ◌∷◌, length, map, Some, None, slice_get}
use Rattle.std.specs.Prelude.{slice_set, if◌then◌else◌}
use Rattle.std.specs.List.{concat}
use Rattle.mc_item.specs.declared.answer.Answer.{Answer}
use Rattle.mc_ring.specs.Reply.{Shown}
use Rattle.mc_reply.specs.declared.pending_reply.PendingReply.{PendingReply}
use Rattle.mc_join.specs.declared.resting.RestingReplies.{RestingReplies}
use Rattle.mc_join.specs.Replies.{complete, pending_reply_text, is_answered}

pub record Held : Type 0 where
  -- the maximum number of open tickets
  pub window : ℕ
  -- the number of commands whose replies were written
  pub handed : ℕ
  -- the pending replies of the open tickets, in order, with the answers that have come
  pub pending_replies : List PendingReply
  -- a sink failed: nothing more is written
  pub gone : Bool

-- the empty buffer
abbrev pub nothing_held : ℕ → Held
nothing_held window = record { window = window; handed = 0; pending_replies = []; gone = false }

-- the contents of a buffer at rest: these numbers, and nothing else
abbrev pub held_at_rest : RestingReplies → Held
held_at_rest resting =
    record { window = resting.window; handed = resting.handed; pending_replies = []; gone = false }

-- the number of pending replies that were opened
abbrev pub opened_count : Held → ℕ
opened_count held = held.handed + length held.pending_replies

-- the tickets are consecutive numbers
abbrev pub AreNumbered : ℕ → List PendingReply → Type 0
AreNumbered ticket [] = Unit {0}
AreNumbered ticket (pending_reply ∷ pending_replies) =
    (pending_reply.ticket.0 ≡ ticket) × AreNumbered (ticket + 1) pending_replies

-- the texts of the replies that are due
abbrev pub due_text : Held → List ℕ
due_text held = if held.gone then [] else concat (map pending_reply_text (complete held.pending_replies))

-- every part of the pending reply is answered
abbrev pub IsDue : PendingReply → Type 0
IsDue pending_reply = is_answered pending_reply ≡ true

-- The pending reply expects the reply: the part exists, has no answer yet, and is of the reply's kind.
pub record Awaits (pending_reply : PendingReply) (reply : Shown) : Type 0 where
  pub unanswered : slice_get pending_reply.slots reply.part ≡ Some None
  pub kind : pending_reply.kind ≡ reply.kind

-- The pending reply at this index expects the reply: it has the reply's ticket.
pub record AwaitsAt (held : Held) (reply : Shown) (place : ℕ) : Type 0 where
  pub pending_reply : PendingReply
  pub here : slice_get held.pending_replies place ≡ Some pending_reply
  pub ticket : pending_reply.ticket ≡ reply.ticket
  pub awaits : Awaits pending_reply reply

-- some form expects the reply
abbrev pub IsAwaited : Held → Shown → Type 0
IsAwaited held reply = (place : ℕ) × AwaitsAt held reply place

-- the pending reply with an answer in the slot of a part
abbrev pub with_answer : ℕ → Answer → PendingReply → PendingReply
with_answer part answer pending_reply =
    record pending_reply { slots = slice_set pending_reply.slots part (Some answer) }

-- the pending reply and its part exist
pub record HasPart (pending_replies : List PendingReply) (place part : ℕ) : Type 0 where
  pub pending_reply : PendingReply
  pub here : slice_get pending_replies place ≡ Some pending_reply
  pub below : part < length pending_reply.slots

-- the pending reply at this index got an answer, and the others are unchanged
pub record Fills (old new : List PendingReply) (place part : ℕ) (answer : Answer) : Type 0 where
  pub pending_reply : PendingReply
  pub here : slice_get old place ≡ Some pending_reply
  pub after : new ≡ slice_set old place (with_answer part answer pending_reply)

-- After an expected reply, its answer is in its slot, and nothing else has changed.
pub record TakesIn (old new : Held) (reply : Shown) : Type 0 where
  pub place : ℕ
  pub pending_reply : PendingReply
  pub here : slice_get old.pending_replies place ≡ Some pending_reply
  pub ticket : pending_reply.ticket ≡ reply.ticket
  pub after : new ≡ record old
      { pending_replies = slice_set old.pending_replies place (with_answer reply.part reply.answer pending_reply) }
