-- The replies to the commands whose pending replies were opened, from the answers that were accepted.
use Rattle.std.specs.Prelude.{ℕ, ◌+◌, ◌==◌, Bool, ◌&&◌, List, [], ◌∷◌, map, Option, Some, None, if◌then◌else◌}
use Rattle.std.specs.List.{take_while}
use Rattle.mc_item.specs.declared.answer.Answer.{Answer}
use Rattle.mc_ring.specs.Reply.{Shown}
use Rattle.mc_reply.specs.declared.pending_reply.PendingReply.{PendingReply}
use Rattle.mc_reply.specs.declared.ticket.Ticket.{Ticket}
use Rattle.mc_reply.specs.Slots.{missing_in}
use Rattle.mc_reply.specs.Text.{reply_kind_text}

-- every part is answered
abbrev pub is_answered : PendingReply → Bool
is_answered pending_reply = missing_in pending_reply.slots == 0

-- the answers that have come, by part
abbrev pub answers_of : List (Option Answer) → List Answer
answers_of [] = []
answers_of (None ∷ slots) = answers_of slots
answers_of (Some answer ∷ slots) = answer ∷ answers_of slots

-- the text of a reply, once every part is answered
abbrev pub pending_reply_text : PendingReply → List ℕ
pending_reply_text pending_reply = reply_kind_text pending_reply.reply_kind (answers_of pending_reply.slots)

-- the longest prefix of completely answered pending replies
abbrev pub complete : List PendingReply → List PendingReply
complete pending_replies = take_while is_answered pending_replies

-- a reply answers this part of the command of this ticket
abbrev pub is_to : Ticket → ℕ → Shown → Bool
is_to ticket part reply = reply.ticket.0 == ticket.0 && reply.part == part

-- the answer that was accepted for a part, if there is one
abbrev pub answer_to : List Shown → Ticket → ℕ → Option Answer
answer_to [] ticket part = None
answer_to (reply ∷ accepted) ticket part =
    if is_to ticket part reply then Some reply.answer else answer_to accepted ticket part

-- a slot that was empty when its pending reply was opened has the answer accepted for its part
abbrev pub slot_after : Option Answer → Option Answer → Option Answer
slot_after (Some answer) given = Some answer
slot_after None given = given

-- the slots from this part on, with the answers accepted
abbrev pub slots_after : List Shown → Ticket → ℕ → List (Option Answer) → List (Option Answer)
slots_after accepted ticket part [] = []
slots_after accepted ticket part (slot ∷ slots) =
    slot_after slot (answer_to accepted ticket part) ∷ slots_after accepted ticket (part + 1) slots

-- the pending reply with the answers accepted for its parts, in whatever order they came
abbrev pub answered : List Shown → PendingReply → PendingReply
answered accepted pending_reply =
    record pending_reply { slots = slots_after accepted pending_reply.ticket 0 pending_reply.slots }

-- The replies: the texts of the longest prefix of completely answered commands, in order.
abbrev pub replies : List PendingReply → List Shown → List (List ℕ)
replies opened accepted = map pending_reply_text (complete (map (answered accepted) opened))
