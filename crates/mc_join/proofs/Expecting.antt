-- A reorder buffer awaits a reply exactly where the lists of what was opened and accepted expect it.
use Rattle.std.proofs.Common.{◌≡◌, ℕ, zero, suc, ◌+◌, ◌-◌, inl, inr, List, [], ◌∷◌, length, map, Some, None, refl, sym}
use Rattle.std.proofs.Common.{ap, ◌∙◌, arith}
use Rattle.std.specs.List.{slice_get}
use Rattle.std.proofs.lemmas.Bool.{cases_lt}
use Rattle.std.proofs.lemmas.List.Sums.{prefix_len_passes}
use Rattle.std.proofs.lemmas.Option.{same_Some, slice_get-map, get_or_from_slice_get}
use Rattle.mc_item.specs.declared.answer.Answer.{Answer}
use Rattle.circular_buffer.proofs.Places.{slice_get-drop}
use Rattle.mc_ring.specs.Reply.{Shown}
use Rattle.mc_reply.specs.declared.pending_reply.PendingReply.{PendingReply}
use Rattle.mc_reply.specs.declared.ticket.Ticket.{Ticket}
use Rattle.mc_join.specs.Expects.{Expects}
use Rattle.mc_join.specs.Held.{Held, IsAwaited, IsDue}
use Rattle.mc_join.specs.Joined.{IsReorderBuffer}
use Rattle.mc_join.specs.Replies.{answered, answers_of, is_answered}
use Rattle.mc_join.proofs.Answered.{due_slots}
use Rattle.mc_join.proofs.Joins.{all_answered, handed_within}
use Rattle.mc_join.proofs.Queues.{numbered_at, same_ticket}

-- filled slots alone have no empty one
pub none_empty : (answers : List Answer) (i : ℕ) → slice_get (map (λ answer. Some answer) answers) i ≡ Some None → ⊥
none_empty [] i here = cc
none_empty (answer ∷ answers) zero here = cc
none_empty (answer ∷ answers) (suc i) here = none_empty answers i here

-- the element that one of a list was made of
made_at : {X Y : Type 0} (f : X → Y) (xs : List X) (i : ℕ) (y : Y) → slice_get (map f xs) i ≡ Some y → (x : X)
    × (slice_get xs i ≡ Some x) × (f x ≡ y)
made_at f [] i y here = absurd (cc)
made_at f (x ∷ xs) zero y here = (x, refl, same_Some (f x) y here)
made_at f (x ∷ xs) (suc i) y here = made_at f xs i y here

-- what is awaited is expected
pub expects_from : (held : Held) (opened : List PendingReply) (accepted : List Shown) (handed : List (List ℕ))
    (reply : Shown) → IsReorderBuffer held opened accepted handed → IsAwaited held reply → Expects opened accepted reply
expects_from held opened accepted handed reply j awaited =
    let pending_replies = all_answered opened accepted in
    let n = length handed in
    let place = awaited.0 in
    let found = awaited.1 in
    let there : slice_get pending_replies (n + place) ≡ Some found.pending_reply =
    sym (slice_get-drop n pending_replies place (n + place) refl) ∙ (rw j.rest at found.here) in
    let made = made_at (answered accepted) opened (n + place) found.pending_reply there in
    let number = numbered_at 0 opened (n + place) made.0 j.numbered made.1 in
    let ticket : made.0.ticket.0 ≡ reply.ticket.0 = ap (λ (f : PendingReply). f.ticket.0) made.2
    ∙ ap (λ (t : Ticket). t.0) found.ticket in
    let same : reply.ticket.0 ≡ n + place = omega (arith, number, ticket) in
    record {
      pending_reply = made.0;
      here = rw same made.1;
      unanswered = ap (λ (f : PendingReply). slice_get f.slots reply.part) made.2 ∙ found.awaits.unanswered;
      kind = ap (λ (f : PendingReply). f.kind) made.2 ∙ found.awaits.kind;
    }

-- and what is expected is awaited
pub awaited_from : (held : Held) (opened : List PendingReply) (accepted : List Shown) (handed : List (List ℕ))
    (reply : Shown) → IsReorderBuffer held opened accepted handed → Expects opened accepted reply → IsAwaited held reply
awaited_from held opened accepted handed reply j expects =
    let pending_replies = all_answered opened accepted in
    let n = length handed in
    let pending_reply = expects.pending_reply in
    let k = reply.ticket.0 in
    let now = answered accepted pending_reply in
    let there : slice_get pending_replies k ≡ Some now =
    rw (slice_get-map (answered accepted) opened k, expects.here) in
    let number = numbered_at 0 opened k pending_reply j.numbered expects.here in
    let within = handed_within pending_replies handed j.beginning in
    elim (cases_lt k n) [
      | inl early ↦
          let due : IsDue now = rw (get_or_from_slice_get pending_replies k now now there)
          at (prefix_len_passes is_answered pending_replies k now (omega (arith, within))) in
          absurd (none_empty (answers_of now.slots) reply.part (rw (due_slots now due) at expects.unanswered))
      | inr open_now ↦ (
        k - n,
        record {
          pending_reply = now;
          here = rw j.rest (slice_get-drop n pending_replies (k - n) k (omega arith) ∙ there);
          ticket = same_ticket pending_reply.ticket reply.ticket (omega (arith, number));
          awaits = record { unanswered = expects.unanswered; kind = expects.kind };
        },
      )
    ]
