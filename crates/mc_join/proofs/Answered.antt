-- The answers accepted for the parts of a pending reply, and the slots that they fill.
use Rattle.std.proofs.Common.{◌≡◌, ◌≢◌, ℕ, zero, suc, ◌+◌, ◌<◌, ◌≤◌, Bool, true, false, cond, eqb, ◌&&◌, List, [], ◌∷◌}
use Rattle.std.proofs.Common.{◌++◌, map, Option, Some, None, refl, ap, ◌∙◌, arith, eq-eqb, ne_eqb, eqb-true}
use Rattle.std.specs.List.{slice_get, slice_set, AllByRecursion}
use Rattle.std.specs.Option.{is_none}
use Rattle.std.proofs.lemmas.Option.{same_Some}
use Rattle.std.proofs.lemmas.List.Sums.{sum_by-cons}
use Rattle.mc_item.specs.declared.answer.Answer.{Answer}
use Rattle.mc_ring.specs.Reply.{Shown}
use Rattle.mc_reply.specs.declared.pending_reply.PendingReply.{PendingReply}
use Rattle.mc_reply.specs.declared.ticket.Ticket.{Ticket}
use Rattle.mc_reply.specs.Slots.{missing_in}
use Rattle.mc_join.specs.Held.{AreNumbered, IsDue, with_answer}
use Rattle.mc_join.specs.Replies.{is_to, answer_to, slot_after, slots_after, answered, answers_of}

-- slots without an empty one are the answers that are there
pub none_missing : (slots : List (Option Answer)) → missing_in slots ≡ 0 → slots
    ≡ map (λ answer. Some answer) (answers_of slots)
none_missing [] none = refl
none_missing (None ∷ slots) none =
    absurd (omega (arith, sum_by-cons (λ (slot : Option Answer). cond (is_none slot) 1 0) None slots, none))
none_missing (Some answer ∷ slots) none =
    let step = sum_by-cons (λ (slot : Option Answer). cond (is_none slot) 1 0) (Some answer) slots in
    ap (λ xs. Some answer ∷ xs) (none_missing slots (omega (arith, step, none)))

-- If every part of a pending reply has its answer, its slots are just these answers.
pub due_slots : (pending_reply : PendingReply) → IsDue pending_reply → pending_reply.slots
    ≡ map (λ answer. Some answer) (answers_of pending_reply.slots)
due_slots pending_reply due = none_missing pending_reply.slots (eqb-true (missing_in pending_reply.slots) 0 due)

-- A reply with a command's ticket and the number of a part is to that part of the command.
pub is_to-same : (ticket : Ticket) (part : ℕ) (reply : Shown) → reply.ticket.0 ≡ ticket.0 → reply.part ≡ part
    → is_to ticket part reply ≡ true
is_to-same ticket part reply tickets parts = rw (eq-eqb reply.ticket.0 ticket.0 tickets, eq-eqb reply.part part parts)

-- A reply with another ticket is to no part of the command.
pub is_to-other_ticket : (ticket : Ticket) (part : ℕ) (reply : Shown) → reply.ticket.0 ≢ ticket.0
    → is_to ticket part reply ≡ false
is_to-other_ticket ticket part reply tickets = rw (ne_eqb reply.ticket.0 ticket.0 tickets)

and-false : (b : Bool) → (b && false) ≡ false
and-false true = refl
and-false false = refl

-- A reply with the number of another part is not to this one.
pub is_to-other_part : (ticket : Ticket) (part : ℕ) (reply : Shown) → reply.part ≢ part → is_to ticket part reply
    ≡ false
is_to-other_part ticket part reply parts = rw (ne_eqb reply.part part parts, and-false (eqb reply.ticket.0 ticket.0))

-- one reply more
answer_to-push : (accepted : List Shown) (reply : Shown) (ticket : Ticket) (part : ℕ)
    → answer_to (accepted ++ reply ∷ []) ticket part
    ≡ slot_after (answer_to accepted ticket part) (cond (is_to ticket part reply) (Some reply.answer) None)
answer_to-push [] reply ticket part = refl
answer_to-push (first ∷ accepted) reply ticket part =
    let rest = answer_to-push accepted reply ticket part in
    elim (is_to ticket part first) as
    (λ b. cond b (Some first.answer) (answer_to (accepted ++ reply ∷ []) ticket part)
    ≡ slot_after (cond b (Some first.answer) (answer_to accepted ticket part))
    (cond (is_to ticket part reply) (Some reply.answer) None)) [
      | true ↦ refl
      | false ↦ rest
    ]

slot_after-None : (slot : Option Answer) → slot_after slot None ≡ slot
slot_after-None None = refl
slot_after-None (Some answer) = refl

-- a reply to another part changes nothing
pub answer_to-other : (accepted : List Shown) (reply : Shown) (ticket : Ticket) (part : ℕ) → is_to ticket part reply
    ≡ false → answer_to (accepted ++ reply ∷ []) ticket part ≡ answer_to accepted ticket part
answer_to-other accepted reply ticket part other =
    rw (answer_to-push accepted reply ticket part, other) (slot_after-None (answer_to accepted ticket part))

-- a reply to a part that had none yet is its answer
pub answer_to-fresh : (accepted : List Shown) (reply : Shown) (ticket : Ticket) (part : ℕ) → is_to ticket part reply
    ≡ true → answer_to accepted ticket part ≡ None → answer_to (accepted ++ reply ∷ []) ticket part ≡ Some reply.answer
answer_to-fresh accepted reply ticket part same fresh = rw (answer_to-push accepted reply ticket part, same, fresh)

-- the slots of a pending reply follow from the answers to its parts
slots-same : (now before : List Shown) (ticket : Ticket) (part : ℕ) (slots : List (Option Answer))
    → ((k : ℕ) → part ≤ k → answer_to now ticket k ≡ answer_to before ticket k) → slots_after now ticket part slots
    ≡ slots_after before ticket part slots
slots-same now before ticket part [] same = refl
slots-same now before ticket part (slot ∷ slots) same =
    cc (
      same part (omega arith),
      slots-same now before ticket (part + 1) slots (λ k later. same k (omega (arith, later))),
    )

-- the slot of an awaited reply gets its answer
slots-filled : (accepted : List Shown) (reply : Shown) (ticket : Ticket) (part i : ℕ) (slots : List (Option Answer))
    → reply.ticket.0 ≡ ticket.0 → reply.part ≡ part + i → slice_get (slots_after accepted ticket part slots) i
    ≡ Some None →
    slots_after (accepted ++ reply ∷ []) ticket part slots
    ≡ slice_set (slots_after accepted ticket part slots) i (Some reply.answer)
slots-filled accepted reply ticket part i [] same at fresh = absurd (cc)
slots-filled accepted reply ticket part zero (None ∷ slots) same at fresh =
    let at_part : reply.part ≡ part = omega (arith, at) in
    let here = answer_to-fresh accepted reply ticket part (is_to-same ticket part reply same at_part)
    (same_Some (answer_to accepted ticket part) None fresh) in
    let behind = λ (k : ℕ) (later : part + 1 ≤ k). answer_to-other accepted reply ticket k
    (is_to-other_part ticket k reply (λ e. omega (arith, e, at_part, later))) in
    cc (here, slots-same (accepted ++ reply ∷ []) accepted ticket (part + 1) slots behind)
slots-filled accepted reply ticket part zero (Some answer ∷ slots) same at fresh = absurd (cc)
slots-filled accepted reply ticket part (suc i) (slot ∷ slots) same at fresh =
    let here = answer_to-other accepted reply ticket part
    (is_to-other_part ticket part reply (λ e. omega (arith, e, at))) in
    cc (here, slots-filled accepted reply ticket (part + 1) i slots same (omega (arith, at)) fresh)

answered-other : (accepted : List Shown) (reply : Shown) (pending_reply : PendingReply)
    → reply.ticket.0 ≢ pending_reply.ticket.0 → answered (accepted ++ reply ∷ []) pending_reply
    ≡ answered accepted pending_reply
answered-other accepted reply pending_reply other =
    let same = λ (k : ℕ) (later : 0 ≤ k). answer_to-other accepted reply pending_reply.ticket k
    (is_to-other_ticket pending_reply.ticket k reply other) in
    ap (λ xs. record pending_reply { slots = xs })
    (slots-same (accepted ++ reply ∷ []) accepted pending_reply.ticket 0 pending_reply.slots same)

-- the pending replies with later tickets
pending_replies-later : (accepted : List Shown) (reply : Shown) (n : ℕ) (pending_replies : List PendingReply)
    → AreNumbered n pending_replies → reply.ticket.0 < n → map (answered (accepted ++ reply ∷ [])) pending_replies
    ≡ map (answered accepted) pending_replies
pending_replies-later accepted reply n [] numbered before = refl
pending_replies-later accepted reply n (pending_reply ∷ pending_replies) numbered before =
    let here = answered-other accepted reply pending_reply (λ e. omega (arith, e, before, numbered.0)) in
    cc (here, pending_replies-later accepted reply (n + 1) pending_replies numbered.1 (omega (arith, before)))

-- an awaited reply changes the one pending reply that it is to
pub pending_replies-filled : (accepted : List Shown) (reply : Shown) (n place : ℕ) (pending_replies : List PendingReply)
    (pending_reply : PendingReply) → AreNumbered n pending_replies → reply.ticket.0 ≡ n + place
    → slice_get (map (answered accepted) pending_replies) place ≡ Some pending_reply
    → slice_get pending_reply.slots reply.part ≡ Some None →
    map (answered (accepted ++ reply ∷ [])) pending_replies
    ≡ slice_set (map (answered accepted) pending_replies) place (with_answer reply.part reply.answer pending_reply)
pending_replies-filled accepted reply n place [] pending_reply numbered at here fresh = absurd (cc)
pending_replies-filled accepted reply n zero (first ∷ pending_replies) pending_reply numbered at here fresh =
    let same : answered accepted first ≡ pending_reply = same_Some (answered accepted first) pending_reply here in
    let number : reply.ticket.0 ≡ first.ticket.0 = omega (arith, at, numbered.0) in
    let slots = slots-filled accepted reply first.ticket 0 reply.part first.slots number (omega arith)
    (rw (← same) at fresh) in
    let filled : answered (accepted ++ reply ∷ []) first
    ≡ with_answer reply.part reply.answer (answered accepted first) = ap (λ xs. record first { slots = xs }) slots in
    rw (← same) (cc (
      filled,
      pending_replies-later accepted reply (n + 1) pending_replies numbered.1 (omega (arith, at)),
    ))
pending_replies-filled accepted reply n (suc place) (first ∷ pending_replies) pending_reply numbered at here fresh =
    let other = answered-other accepted reply first (λ e. omega (arith, e, at, numbered.0)) in
    cc (
      other,
      pending_replies-filled accepted reply (n + 1) place pending_replies pending_reply numbered.1
          (omega (arith, at)) here fresh,
    )

-- a part of a ticket to which no reply was accepted
pub answer_to-none : (accepted : List Shown) (ticket : Ticket) (part n : ℕ)
    → AllByRecursion (λ reply. reply.ticket.0 < n) accepted → ticket.0 ≡ n → answer_to accepted ticket part ≡ None
answer_to-none [] ticket part n asked at = refl
answer_to-none (reply ∷ accepted) ticket part n asked at =
    rw (is_to-other_ticket ticket part reply (λ e. omega (arith, e, asked.0, at)))
    (answer_to-none accepted ticket part n asked.1 at)

slots-none : (ticket : Ticket) (part : ℕ) (slots : List (Option Answer)) → slots_after [] ticket part slots ≡ slots
slots-none ticket part [] = refl
slots-none ticket part (slot ∷ slots) = cc (slot_after-None slot, slots-none ticket (part + 1) slots)

-- a pending reply that was just opened is as it was
pub answered-none : (accepted : List Shown) (pending_reply : PendingReply) (n : ℕ)
    → AllByRecursion (λ reply. reply.ticket.0 < n) accepted → pending_reply.ticket.0 ≡ n
    → answered accepted pending_reply ≡ pending_reply
answered-none accepted pending_reply n asked at =
    let none = slots-same accepted [] pending_reply.ticket 0 pending_reply.slots
    (λ k later. answer_to-none accepted pending_reply.ticket k n asked at) in
    ap (λ xs. record pending_reply { slots = xs }) (none ∙ slots-none pending_reply.ticket 0 pending_reply.slots)
