-- The pending replies of the open tickets: their numbers, their places, and those whose turn has come.
use Rattle.std.proofs.Common.{◌≡◌, ◌≢◌, ℕ, zero, suc, ◌+◌, ◌<◌, ◌≤◌, List, [], ◌∷◌, ◌++◌, length, drop, Some, refl, sym}
use Rattle.std.proofs.Common.{ap, ◌∙◌, arith, length-set}
use Rattle.std.specs.List.{slice_get, slice_set}
use Rattle.std.proofs.lemmas.Option.{same_Some, slice_get_within}
use Rattle.mc_item.specs.declared.answer.Answer.{Answer}
use Rattle.mc_ring.specs.Reply.{Shown}
use Rattle.mc_reply.specs.declared.pending_reply.PendingReply.{PendingReply}
use Rattle.mc_reply.specs.declared.ticket.Ticket.{Ticket}
use Rattle.mc_join.specs.Held.{Held, AreNumbered, Awaits, AwaitsAt, IsAwaited, Fills, with_answer}

-- Of pending replies numbered one after another the one at a place has the first number plus that place.
pub numbered_at : (n : ℕ) (pending_replies : List PendingReply) (place : ℕ) (pending_reply : PendingReply)
    → AreNumbered n pending_replies → slice_get pending_replies place ≡ Some pending_reply → pending_reply.ticket.0
    ≡ n + place
numbered_at n [] place pending_reply numbered here = absurd (cc)
numbered_at n (first ∷ pending_replies) zero pending_reply numbered here =
    (rw (same_Some first pending_reply here) at numbered.0) ∙ omega arith
numbered_at n (first ∷ pending_replies) (suc place) pending_reply numbered here =
    numbered_at (n + 1) pending_replies place pending_reply numbered.1 here ∙ omega arith

-- one pending reply more, with the next number
pub numbered_more : (n : ℕ) (pending_replies : List PendingReply) (pending_reply : PendingReply)
    → AreNumbered n pending_replies → pending_reply.ticket.0 ≡ n + length pending_replies
    → AreNumbered n (pending_replies ++ pending_reply ∷ [])
numbered_more n [] pending_reply numbered next = (omega (arith, next), tt)
numbered_more n (first ∷ pending_replies) pending_reply numbered next =
    (numbered.0, numbered_more (n + 1) pending_replies pending_reply numbered.1 (omega (arith, next)))

-- a pending reply that replaces another one with its number
pub numbered_set : (n : ℕ) (pending_replies : List PendingReply) (place : ℕ) (old new : PendingReply)
    → AreNumbered n pending_replies → slice_get pending_replies place ≡ Some old → new.ticket ≡ old.ticket
    → AreNumbered n (slice_set pending_replies place new)
numbered_set n [] place old new numbered here same = tt
numbered_set n (first ∷ pending_replies) zero old new numbered here same =
    (ap (λ (t : Ticket). t.0) same ∙ (rw (same_Some first old here) at numbered.0), numbered.1)
numbered_set n (first ∷ pending_replies) (suc place) old new numbered here same =
    (numbered.0, numbered_set (n + 1) pending_replies place old new numbered.1 here same)

-- Pending replies that are numbered from a number on are numbered from any number that equals it.
pub numbered_along : (n m : ℕ) (pending_replies : List PendingReply) → n ≡ m → AreNumbered n pending_replies
    → AreNumbered m pending_replies
numbered_along n m pending_replies same numbered = rw same at numbered

-- the pending replies behind the first ones
pub numbered_drop : (n count : ℕ) (pending_replies : List PendingReply) → AreNumbered n pending_replies
    → count ≤ length pending_replies → AreNumbered (n + count) (drop count pending_replies)
numbered_drop n zero pending_replies numbered within = numbered_along n (n + 0) pending_replies (omega arith) numbered
numbered_drop n (suc count) [] numbered within = tt
numbered_drop n (suc count) (first ∷ pending_replies) numbered within =
    numbered_along (n + 1 + count) (n + suc count) (drop count pending_replies) (omega arith)
    (numbered_drop (n + 1) count pending_replies numbered.1 (omega (arith, within)))

-- Two tickets with one number are equal.
pub same_ticket : (a b : Ticket) → a.0 ≡ b.0 → a ≡ b
same_ticket a b e = ap (λ n. record { 0 = n }) e

-- a reply that no pending reply of its ticket can await
pub unopened : (held : Held) (reply : Shown) → AreNumbered held.handed held.pending_replies
    → ((place : ℕ) → place < length held.pending_replies → reply.ticket.0 ≢ held.handed + place) → IsAwaited held reply
    → ⊥
unopened held reply numbered none w =
    let at = numbered_at held.handed held.pending_replies w.0 w.1.pending_reply numbered w.1.here in
    none w.0 (slice_get_within held.pending_replies w.0 w.1.pending_reply w.1.here)
    (ap (λ (t : Ticket). t.0) (sym w.1.ticket) ∙ at)

-- the pending reply of the reply's ticket does not await it
pub unwanted : (held : Held) (reply : Shown) (place : ℕ) (pending_reply : PendingReply)
    → AreNumbered held.handed held.pending_replies → reply.ticket.0 ≡ held.handed + place
    → slice_get held.pending_replies place ≡ Some pending_reply → (Awaits pending_reply reply → ⊥)
    → IsAwaited held reply → ⊥
unwanted held reply place pending_reply numbered at here not w =
    let there = numbered_at held.handed held.pending_replies w.0 w.1.pending_reply numbered w.1.here in
    let ticket : w.1.pending_reply.ticket.0 ≡ reply.ticket.0 = ap (λ (t : Ticket). t.0) w.1.ticket in
    let same : w.0 ≡ place = omega (arith, there, ticket, at) in
    let found : Some w.1.pending_reply ≡ Some pending_reply = sym w.1.here ∙ (rw same here) in
    not (rw (same_Some w.1.pending_reply pending_reply found) at w.1.awaits)

-- the pending reply of the reply's ticket awaits it
pub awaits_at : (held : Held) (reply : Shown) (place : ℕ) (pending_reply : PendingReply)
    → AreNumbered held.handed held.pending_replies → reply.ticket.0 ≡ held.handed + place
    → slice_get held.pending_replies place ≡ Some pending_reply → Awaits pending_reply reply → AwaitsAt held reply place
awaits_at held reply place pending_reply numbered at here awaits =
    let there = numbered_at held.handed held.pending_replies place pending_reply numbered here in
    record {
      pending_reply = pending_reply;
      here = here;
      ticket = same_ticket pending_reply.ticket reply.ticket (there ∙ sym at);
      awaits = awaits;
    }

-- what a filled slot leaves of the numbers
pub fills_numbered : (n : ℕ) (old new : List PendingReply) (place part : ℕ) (answer : Answer) → AreNumbered n old
    → Fills old new place part answer → AreNumbered n new
fills_numbered n old new place part answer numbered fills =
    rw fills.after (numbered_set n old place fills.pending_reply (with_answer part answer fills.pending_reply) numbered
    fills.here refl)

-- An answer that fills a slot leaves the number of pending replies as it was.
pub fills_length : (old new : List PendingReply) (place part : ℕ) (answer : Answer) → Fills old new place part answer
    → length new ≡ length old
fills_length old new place part answer fills =
    ap length fills.after ∙ length-set old place (with_answer part answer fills.pending_reply)
