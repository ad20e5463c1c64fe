-- Answers fit when a command is taken, and when the reply to the next piece that is due is accepted.
use Rattle.std.proofs.Common.{◌≡◌, ◌≢◌, ℕ, zero, suc, ◌+◌, ◌<◌, ◌≤◌, inl, inr, List, [], ◌∷◌, ◌++◌, length, Option}
use Rattle.std.proofs.Common.{Some, None, refl, sym, ap, ◌∙◌, arith, length-append, append_assoc}
use Rattle.std.specs.List.{slice_get}
use Rattle.std.specs.Option.{option_map}
use Rattle.std.proofs.lemmas.Bool.{cases_eq}
use Rattle.std.proofs.lemmas.Option.{same_Some, slice_get_within, slice_get_past}
use Rattle.mc_item.specs.declared.answer.Answer.{Answer}
use Rattle.mc_item.specs.Kind.{kind_of}
use Rattle.mc_ring.specs.Reply.{Shown}
use Rattle.mc_split.specs.declared.plan.Piece.{Piece}
use Rattle.mc_reply.specs.declared.ticket.Ticket.{Ticket}
use Rattle.mc_split.specs.Pieces.{pieces_of}
use Rattle.mc_split.specs.Plan.{no_answers}
use Rattle.mc_join.specs.Replies.{answer_to, slots_after}
use Rattle.mc_join.proofs.Answered.{answer_to-fresh, answer_to-none, answer_to-other, is_to-other_part}
use Rattle.mc_join.proofs.Answered.{is_to-other_ticket, is_to-same}
use Rattle.mc_conn.specs.History.{Taken, planned}
use Rattle.mc_conn.specs.Due.{due, pending_reply_at, pending_replies_of, channel, pieces, pieces_at, pieces_from}
use Rattle.mc_conn.specs.Due.{ticket_at}
use Rattle.mc_join.specs.Expects.{Expects}
use Rattle.mc_conn.specs.Fits.{Fits, IsReplyTo, ReceivesFromShard}
use Rattle.mc_conn.proofs.Gets.{get_cases}
use Rattle.mc_conn.proofs.Places.{channel_at, channel-append, one_place, piece_at}
use Rattle.mc_conn.proofs.PendingReplies.{pending_reply_there, kind_at, slot_at}
use Rattle.mc_ring.proofs.Lists.{all_weaken, all_push, get_last}

-- The answers fit on a new connection, which took no command and received no reply.
pub fits_none : (shards : ℕ) → Fits shards [] [] (λ s. [])
fits_none shards = record { within = λ s. omega arith; asked = tt; answers = λ s i p here. absurd (cc) }

-- The pieces of further commands come behind those of the commands before, with tickets that count on.
pub pieces_from-append : (shards number : ℕ) (taken more : List Taken) → pieces_from shards number (taken ++ more)
    ≡ pieces_from shards number taken ++ pieces_from shards (number + length taken) more
pieces_from-append shards number [] more = let at : number ≡ number + 0 =
    omega arith in ap (λ n. pieces_from shards n more) at
pieces_from-append shards number (one ∷ taken) more =
    let at : number + 1 + length taken ≡ number + suc (length taken) = omega arith in
    ap (λ ps. pieces_at shards number one ++ ps)
    (pieces_from-append shards (number + 1) taken more
    ∙ ap (λ n. pieces_from shards (number + 1) taken ++ pieces_from shards n more) at)
    ∙ sym (append_assoc (pieces_at shards number one) (pieces_from shards (number + 1) taken)
    (pieces_from shards (number + suc (length taken)) more))

-- Further commands add their pieces for a shard behind those that were due there.
pub due-append : (shards s : ℕ) (taken more : List Taken) → due shards s (taken ++ more) ≡ due shards s taken
    ++ channel s (pieces_from shards (0 + length taken) more)
due-append shards s taken more =
    ap (λ ps. channel s ps) (pieces_from-append shards 0 taken more)
    ∙ channel-append s (pieces shards taken) (pieces_from shards (0 + length taken) more)

-- a piece of one command alone has its ticket
own_ticket : (shards number s : ℕ) (one : Taken) (i : ℕ) (p : Piece)
    → slice_get (channel s (pieces_from shards number (one ∷ []))) i ≡ Some p → p.ticket.0 ≡ number
own_ticket shards number s one i p here =
    let found = channel_at s (pieces_from shards number (one ∷ [])) i p here in
    let of = piece_at shards number (one ∷ []) found.place (s, p) found.here in
    let at = of.number_is in
    let within = slice_get_within (one ∷ []) of.place of.one of.here in
    omega (arith, at, within)

-- a command that is taken leaves the answers so far in their places
pub fits_take : (shards : ℕ) (taken : List Taken) (one : Taken) (accepted : List Shown) (received : ℕ → List Shown)
    → Fits shards taken accepted received → Fits shards (taken ++ one ∷ []) accepted received
fits_take shards taken one accepted received fits = record {
  within = λ s.
      let within = fits.within s in
      let longer = ap length (due-append shards s taken (one ∷ [])) in
      omega (
        arith,
        within,
        longer,
        length-append (due shards s taken) (channel s (pieces_from shards (0 + length taken) (one ∷ []))),
      );
  asked =
      let longer = length-append taken (one ∷ []) in
      all_weaken (λ (reply : Shown). reply.ticket.0 < length taken)
      (λ (reply : Shown). reply.ticket.0 < length (taken ++ one ∷ [])) (λ reply below. omega (arith, below, longer))
      accepted fits.asked;
  answers = λ s i p here.
      let more = channel s (pieces_from shards (0 + length taken) (one ∷ [])) in
      let found : slice_get (due shards s taken ++ more) i ≡ Some p =
      ap (λ ps. slice_get ps i) (sym (due-append shards s taken (one ∷ []))) ∙ here in
      elim (get_cases (due shards s taken) more i p found) [
        | inl old ↦ fits.answers s i p old
        | inr new ↦
            let number = own_ticket shards (0 + length taken) s one new.place p new.here in
            let within = fits.within s in
            let at = new.at in
            answer_to-none accepted p.ticket p.part (length taken) fits.asked (omega (arith, number))
            ∙ sym (ap (λ o. option_map (λ (reply : Shown). reply.answer) o)
            (slice_get_past (received s) i (omega (arith, within, at))))
      ];
}

push_other : {X : Type 0} (xs : List X) (x : X) (i : ℕ) → i ≢ length xs → slice_get (xs ++ x ∷ []) i ≡ slice_get xs i
push_other [] x zero other = absurd (other refl)
push_other [] x (suc i) other = refl
push_other (y ∷ xs) x zero other = refl
push_other (y ∷ xs) x (suc i) other = push_other xs x i (λ e. other (ap suc e))

-- a reply with another key changes no answer
other_key : (accepted : List Shown) (reply : Shown) (ticket : Ticket) (part : ℕ)
    → (reply.ticket.0 ≡ ticket.0 → reply.part ≡ part → ⊥) → answer_to (accepted ++ reply ∷ []) ticket part
    ≡ answer_to accepted ticket part
other_key accepted reply ticket part apart = elim (cases_eq reply.ticket.0 ticket.0) [
  | inl tickets ↦ answer_to-other accepted reply ticket part
      (is_to-other_part ticket part reply (λ parts. apart tickets parts))
  | inr tickets ↦ answer_to-other accepted reply ticket part (is_to-other_ticket ticket part reply tickets)
]

-- a reply to the next piece that is due at its shard is expected
pub next_expected : (shards s : ℕ) (taken : List Taken) (accepted : List Shown) (old : ℕ → List Shown) (p : Piece)
    (reply : Shown) → Fits shards taken accepted old → slice_get (due shards s taken) (length (old s)) ≡ Some p
    → IsReplyTo p reply → Expects (pending_replies_of shards taken) accepted reply
next_expected shards s taken accepted old p reply fits next to =
    let on = channel_at s (pieces shards taken) (length (old s)) p next in
    let of = piece_at shards 0 taken on.place (s, p) on.here in
    let number : p.ticket.0 ≡ 0 + of.place = of.number_is in
    let ticket = ap (λ (t : Ticket). t.0) to.ticket in
    let part : 0 + p.part ≡ p.part = omega arith in
    let asked = pieces_of shards (planned of.one) in
    let none : answer_to accepted p.ticket p.part ≡ None =
    fits.answers s (length (old s)) p next
    ∙ ap (λ o. option_map (λ (r : Shown). r.answer) o) (slice_get_past (old s) (length (old s)) (omega arith)) in
    let slots : Ticket → List (Option Answer) = λ t. slots_after accepted t 0 (no_answers asked) in
    let at : reply.ticket.0 ≡ of.place = omega (arith, number, ticket) in
    record {
      pending_reply = pending_reply_at shards (0 + of.place) of.one;
      here =
          ap (λ k. slice_get (pending_replies_of shards taken) k) at ∙ pending_reply_there shards 0 taken of.place
          of.one of.here;
      unanswered =
          ap (λ n. slice_get (slots (ticket_at n)) reply.part) (sym number)
          ∙ (ap (λ k. slice_get (slots p.ticket) k) to.part
          ∙ (slot_at accepted p.ticket 0 asked p.part of.asked of.part
          ∙ (ap (λ k. Some (answer_to accepted p.ticket k)) part ∙ ap (λ o. Some o) none)));
      kind = kind_at shards (planned of.one) p.part of.asked of.part ∙ (ap kind_of (sym of.op) ∙ sym to.kind);
    }

-- no more was received from any shard than is due there
pub within_more : (shards s : ℕ) (taken : List Taken) (old new : ℕ → List Shown) (reply : Shown)
    → ((t : ℕ) → length (old t) ≤ length (due shards t taken)) → length (old s) < length (due shards s taken)
    → ReceivesFromShard old s reply new → (t : ℕ) → length (new t) ≤ length (due shards t taken)
within_more shards s taken old new reply within owed receives t = elim (cases_eq t s) [
  | inl same ↦
      let grown = ap length receives.here in
      rw same (omega (arith, owed, grown, length-append (old s) (reply ∷ [])))
  | inr other ↦ rw (receives.others t other) (within t)
]

-- and fits where it is accepted
pub next_fits : (shards s : ℕ) (taken : List Taken) (accepted : List Shown) (old new : ℕ → List Shown) (p : Piece)
    (reply : Shown) → Fits shards taken accepted old → slice_get (due shards s taken) (length (old s)) ≡ Some p
    → IsReplyTo p reply → ReceivesFromShard old s reply new → Fits shards taken (accepted ++ reply ∷ []) new
next_fits shards s taken accepted old new p reply fits next to receives =
    let on = channel_at s (pieces shards taken) (length (old s)) p next in
    let of = piece_at shards 0 taken on.place (s, p) on.here in
    let tickets : reply.ticket.0 ≡ p.ticket.0 = ap (λ (t : Ticket). t.0) to.ticket in
    let answer_at : Option Shown → Option Answer = λ o. option_map (λ (r : Shown). r.answer) o in
    -- a piece at another place has another key
    let elsewhere : (t i : ℕ) (q : Piece) → slice_get (due shards t taken) i ≡ Some q
    → ((s ≡ t) → (length (old s) ≡ i) → ⊥) → answer_to (accepted ++ reply ∷ []) q.ticket q.part
    ≡ answer_to accepted q.ticket q.part = λ t i q found apart.
    other_key accepted reply q.ticket q.part (λ ticket part.
    let same : p.ticket ≡ q.ticket = λ k. record { 0 = (sym tickets ∙ ticket) k } in
    let places = one_place shards s t (length (old s)) i taken p q next found same (sym to.part ∙ part) in
    apart places.0 places.1) in
    record {
      within =
          within_more shards s taken old new reply fits.within
          (slice_get_within (due shards s taken) (length (old s)) p next) receives;
      asked =
          let number = of.number_is in
          let below = slice_get_within taken of.place of.one of.here in
          all_push (λ (r : Shown). r.ticket.0 < length taken) accepted reply fits.asked
          (omega (arith, number, below, tickets));
      answers = λ t i q found. elim (cases_eq t s) [
        | inl same ↦ elim (cases_eq i (length (old s))) [
          | inl at ↦
              let one : p ≡ q = same_Some p q
              (sym next ∙ (ap (λ k. slice_get (due shards s taken) k) (sym at)
              ∙ (ap (λ k. slice_get (due shards k taken) i) (sym same) ∙ found))) in
              let none : answer_to accepted p.ticket p.part ≡ None = fits.answers s (length (old s)) p next
              ∙ ap answer_at (slice_get_past (old s) (length (old s)) (omega arith)) in
              ap (λ (x : Piece). answer_to (accepted ++ reply ∷ []) x.ticket x.part) (sym one)
              ∙ (answer_to-fresh accepted reply p.ticket p.part (is_to-same p.ticket p.part reply tickets to.part) none
              ∙ sym (ap (λ k. answer_at (slice_get (new k) i)) same ∙ (ap (λ k. answer_at (slice_get (new s) k)) at
              ∙ (ap (λ xs. answer_at (slice_get xs (length (old s)))) receives.here
              ∙ ap answer_at (get_last (old s) reply)))))
          | inr apart ↦
              elsewhere t i q found (λ shard place. apart (sym place))
              ∙ (fits.answers t i q found
              ∙ sym (ap (λ k. answer_at (slice_get (new k) i)) same
              ∙ (ap (λ xs. answer_at (slice_get xs i)) receives.here
              ∙ (ap answer_at (push_other (old s) reply i apart)
              ∙ ap (λ k. answer_at (slice_get (old k) i)) (sym same)))))
        ]
        | inr other ↦
            elsewhere t i q found (λ shard place. other (sym shard))
            ∙ (fits.answers t i q found ∙ ap (λ xs. answer_at (slice_get xs i)) (sym (receives.others t other)))
      ];
    }
