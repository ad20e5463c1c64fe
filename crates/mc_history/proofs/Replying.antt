-- Who has more of the same answers has more of the same replies.
use Rattle.std.proofs.Common.{◌≡◌, ℕ, suc, ◌+◌, ◌<◌, true, false, cond, inl, inr, List, [], ◌∷◌, length, map, take}
use Rattle.std.proofs.Common.{Option, Some, None, refl, sym, ap, subst, ◌∙◌, arith, eqb-true}
use Rattle.std.specs.List.{slice_get}
use Rattle.std.specs.Option.{is_none, option_map}
use Rattle.std.proofs.lemmas.Bool.{cases_lt}
use Rattle.std.proofs.lemmas.List.Sums.{sum_by-cons, take_while-cons}
use Rattle.mc_item.specs.declared.answer.Answer.{Answer}
use Rattle.mc_ring.specs.Reply.{Shown}
use Rattle.mc_reply.specs.declared.pending_reply.PendingReply.{PendingReply}
use Rattle.mc_reply.specs.declared.ticket.Ticket.{Ticket}
use Rattle.mc_reply.specs.Slots.{missing_in}
use Rattle.mc_split.specs.declared.plan.Piece.{Piece}
use Rattle.mc_split.specs.Pieces.{ShardOp, pieces_of}
use Rattle.mc_split.specs.Plan.{no_answers, parts_from}
use Rattle.mc_join.specs.Replies.{answer_to, answered, complete, pending_reply_text, is_answered, replies, slots_after}
use Rattle.mc_conn.specs.Due.{due, pending_reply_at, pending_replies_from, pending_replies_of, channel, pieces}
use Rattle.mc_conn.specs.Due.{pieces_at, pieces_from, ticket_at}
use Rattle.mc_conn.specs.Fits.{Fits}
use Rattle.mc_conn.specs.History.{Taken, planned}
use Rattle.mc_conn.proofs.Counting.{due_beyond}
use Rattle.mc_conn.proofs.Gets.{get_behind, get_front}
use Rattle.mc_conn.proofs.Places.{channel_there}
use Rattle.mc_model.specs.Grows.{Lengthens}

-- The answer that the first has for a piece the second has too.
abbrev Has : List Shown → List Shown → ℕ × Piece → Type 0
Has some all piece =
    (answer : Answer) → answer_to some piece.1.ticket piece.1.part ≡ Some answer
    → answer_to all piece.1.ticket piece.1.part ≡ Some answer

-- that is so of each of these pieces
abbrev HasEach : List Shown → List Shown → List (ℕ × Piece) → Type 0
HasEach some all pieces = (i : ℕ) (piece : ℕ × Piece) → slice_get pieces i ≡ Some piece → Has some all piece

-- slots that are all filled by the first are so by the second
slots_same : (some all : List Shown) (first : ℕ) (ticket : Ticket) (moment : ℕ) (asked : List ShardOp)
    → HasEach some all (parts_from first ticket moment asked)
    → missing_in (slots_after some ticket first (no_answers asked)) ≡ 0
    → slots_after all ticket first (no_answers asked) ≡ slots_after some ticket first (no_answers asked)
slots_same some all first ticket moment [] has full = refl
slots_same some all first ticket moment (one ∷ asked) has full =
    let later = slots_after some ticket (first + 1) (no_answers asked) in
    let later' = slots_after all ticket (first + 1) (no_answers asked) in
    let step = sum_by-cons (λ (slot : Option Answer). cond (is_none slot) 1 0) (answer_to some ticket first) later in
    elim (answer_to some ticket first) as
    (λ o. answer_to some ticket first ≡ o → missing_in (o ∷ later) ≡ cond (is_none o) 1 0 + missing_in later
    → missing_in (o ∷ later) ≡ 0 → answer_to all ticket first ∷ later' ≡ o ∷ later) [
      | None ↦ λ is sum none. absurd (omega (arith, sum, none))
      | Some answer ↦ λ is sum none.
          ap (λ o. o ∷ later') (has 0
          (one.shard, record { ticket = ticket; part = first; op = one.op; moment = moment }) refl answer is)
          ∙ ap (λ xs. Some answer ∷ xs)
          (slots_same some all (first + 1) ticket moment asked (λ i piece here. has (suc i) piece here)
          (omega (arith, sum, none)))
    ] refl step full

-- the replies to commands for all of whose pieces that is so
replies_more : (shards number : ℕ) (taken : List Taken) (some all : List Shown)
    → HasEach some all (pieces_from shards number taken)
    → Lengthens (replies (pending_replies_from shards number taken) some)
    (replies (pending_replies_from shards number taken) all)
replies_more shards number [] some all has = ([], refl)
replies_more shards number (one ∷ taken) some all has =
    let pending_reply = pending_reply_at shards number one in
    let pending_replies = pending_replies_from shards (number + 1) taken in
    let front = pieces_at shards number one in
    let behind = pieces_from shards (number + 1) taken in
    let old : PendingReply = answered some pending_reply in
    let new : PendingReply = answered all pending_reply in
    let rest = complete (map (answered some) pending_replies) in
    let rest' = complete (map (answered all) pending_replies) in
    let old_is = take_while-cons is_answered old (map (answered some) pending_replies) in
    let new_is = take_while-cons is_answered new (map (answered all) pending_replies) in
    subst (λ fs. Lengthens (map pending_reply_text fs) (replies (pending_reply ∷ pending_replies) all)) (sym old_is)
    (subst (λ fs. Lengthens (map pending_reply_text (cond (is_answered old) (old ∷ rest) []))
    (map pending_reply_text fs)) (sym new_is)
    (elim (is_answered old) as
    (λ b. is_answered old ≡ b
    → Lengthens (map pending_reply_text (cond b (old ∷ rest) []))
    (map pending_reply_text (cond (is_answered new) (new ∷ rest') []))) [
      | false ↦ λ is. (map pending_reply_text (cond (is_answered new) (new ∷ rest') []), refl)
      | true ↦ λ is.
          let slots = slots_same some all 0 (ticket_at number) one.moment (pieces_of shards (planned one))
          (λ i piece here. has i piece (get_front front behind i piece here)) (eqb-true (missing_in old.slots) 0 is) in
          let same : new ≡ old = ap (λ ss. record pending_reply { slots = ss }) slots in
          let tail = replies_more shards (number + 1) taken some all
          (λ i piece here. has (length front + i) piece (get_behind front behind i ∙ here)) in
          subst (λ (f : PendingReply). Lengthens (pending_reply_text old ∷ map pending_reply_text rest)
          (map pending_reply_text (cond (is_answered f) (f ∷ rest') []))) (sym same)
          (subst (λ b. Lengthens (pending_reply_text old ∷ map pending_reply_text rest)
          (map pending_reply_text (cond b (old ∷ rest') []))) (sym is)
          (tail.0, ap (λ ts. pending_reply_text old ∷ ts) tail.1))
    ] refl))

-- a reply that has come, by its answer
reply_of : (o : Option Shown) (answer : Answer) → option_map (λ (reply : Shown). reply.answer) o ≡ Some answer
    → (reply : Shown) × (o ≡ Some reply)
reply_of None answer is = absurd (cc is)
reply_of (Some reply) answer is = (reply, refl)

-- what was received of each shard is a beginning of what is received of it there
has_piece : (shards : ℕ) (taken : List Taken) (some all : List Shown) (received received' : ℕ → List Shown) → 0 < shards
    → Fits shards taken some received → Fits shards taken all received'
    → ((s : ℕ) → s < shards → Lengthens (received s) (received' s))
    → HasEach some all (pieces shards taken)
has_piece shards taken some all received received' there fits fits' more x piece here answer was =
    let s = piece.0 in
    let p = piece.1 in
    let i = length (channel s (take x (pieces shards taken))) in
    let on : slice_get (due shards s taken) i ≡ Some p = channel_there s (pieces shards taken) x p here in
    let answer_at : Option Shown → Option Answer = λ o. option_map (λ (reply : Shown). reply.answer) o in
    let came = reply_of (slice_get (received s) i) answer (sym (fits.answers s i p on) ∙ was) in
    elim (cases_lt s shards) [
      | inr beyond ↦ absurd (cc (sym (ap (λ ps. slice_get ps i) (due_beyond shards s taken there beyond)) ∙ on))
      | inl below ↦
          let grows = more s below in
          let later : slice_get (received' s) i ≡ Some came.0 = ap (λ l. slice_get l i) grows.1
          ∙ get_front (received s) grows.0 i came.0 came.1 in
          fits'.answers s i p on ∙
          (ap answer_at later ∙ (ap answer_at (sym came.1) ∙ (sym (fits.answers s i p on) ∙ was)))
    ]

-- Where what was received of each shard begins what is received there, the replies begin the replies there.
pub replies_begin : (shards : ℕ) (taken : List Taken) (some all : List Shown) (received received' : ℕ → List Shown)
    → 0 < shards → Fits shards taken some received → Fits shards taken all received'
    → ((s : ℕ) → s < shards → Lengthens (received s) (received' s))
    → Lengthens (replies (pending_replies_of shards taken) some) (replies (pending_replies_of shards taken) all)
replies_begin shards taken some all received received' there fits fits' more =
    replies_more shards 0 taken some all (has_piece shards taken some all received received' there fits fits' more)
