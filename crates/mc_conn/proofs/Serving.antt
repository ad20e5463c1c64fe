-- A connection that accepts what is expected keeps its answers in their places, as long as the keys fit.
use Rattle.std.proofs.Common.{◌≡◌, ℕ, zero, suc, ◌+◌, ◌<◌, inl, inr, List, [], ◌∷◌, ◌++◌, length, map, Some, sym, ap}
use Rattle.std.proofs.Common.{◌∙◌, arith, length-append}
use Rattle.std.specs.List.{slice_get}
use Rattle.std.proofs.lemmas.Bool.{cases_eq}
use Rattle.std.proofs.lemmas.Option.{same_Some, slice_get_within}
use Rattle.std.proofs.lemmas.List.{length-map}
use Rattle.mc_item.specs.Kind.{kind_of}
use Rattle.mc_ring.specs.Reply.{Shown}
use Rattle.mc_split.specs.declared.plan.Piece.{Piece}
use Rattle.mc_conn.specs.History.{Taken}
use Rattle.mc_conn.specs.Due.{Ran, due, pending_replies_of, channel, pieces_from}
use Rattle.mc_join.specs.Expects.{Expects}
use Rattle.mc_conn.specs.Fits.{CameFrom, IsReplyTo, KeysFit, ReceivesFromShard, Serves, reply_of}
use Rattle.mc_conn.proofs.Gets.{get_front}
use Rattle.mc_conn.proofs.Fitting.{due-append, fits_none, fits_take, next_expected, next_fits, within_more}
use Rattle.mc_ring.proofs.Lists.{get_below, get_last}

-- A new connection, which took no command and received no reply, has its answers in their places.
pub serves_none : (shards : ℕ) → Serves shards [] [] (λ s. [])
serves_none shards = record { within = λ s. omega arith; fits = λ keys. fits_none shards }

-- A command that is taken leaves the answers in their places, as long as the keys fit.
pub serves_take : (shards : ℕ) (taken : List Taken) (one : Taken) (accepted : List Shown) (received : ℕ → List Shown)
    → Serves shards taken accepted received → Serves shards (taken ++ one ∷ []) accepted received
serves_take shards taken one accepted received serves =
    let more : ℕ → List Piece = λ s. channel s (pieces_from shards (0 + length taken) (one ∷ [])) in
    record {
      within = λ s.
          let within = serves.within s in
          let longer = ap length (due-append shards s taken (one ∷ [])) in
          omega (arith, within, longer, length-append (due shards s taken) (more s));
      fits = λ keys. fits_take shards taken one accepted received (serves.fits (λ s i p reply asked came.
          keys s i p reply (ap (λ ps. slice_get ps i) (due-append shards s taken (one ∷ []))
          ∙ get_front (due shards s taken) (more s) i p asked) came));
    }

-- what was received stays where it is
kept : (old new : ℕ → List Shown) (s : ℕ) (reply : Shown) → ReceivesFromShard old s reply new → (t i : ℕ) (r : Shown)
    → slice_get (old t) i ≡ Some r → slice_get (new t) i ≡ Some r
kept old new s reply receives t i r came = elim (cases_eq t s) [
  | inl same ↦
      let here : slice_get (old s) i ≡ Some r = ap (λ k. slice_get (old k) i) (sym same) ∙ came in
      ap (λ k. slice_get (new k) i) same
      ∙ (ap (λ xs. slice_get xs i) receives.here ∙ get_front (old s) (reply ∷ []) i r here)
  | inr other ↦ ap (λ xs. slice_get xs i) (receives.others t other) ∙ came
]

-- where the keys fit, the next reply is to the next piece that is due
pub next_of : (shards s : ℕ) (taken : List Taken) (old new : ℕ → List Shown) (reply : Shown) (p : Piece)
    → slice_get (due shards s taken) (length (old s)) ≡ Some p → ReceivesFromShard old s reply new
    → KeysFit shards taken new → KeysFit shards taken old × IsReplyTo p reply
next_of shards s taken old new reply p next receives keys = (
  λ t i q r asked came. keys t i q r asked (kept old new s reply receives t i r came),
  keys s (length (old s)) p reply next
      (ap (λ xs. slice_get xs (length (old s))) receives.here ∙ get_last (old s) reply),
)

-- A reply accepted from a shard that owes one leaves the answers in their places, as long as the keys fit.
pub serves_accept : (shards s : ℕ) (taken : List Taken) (accepted : List Shown) (old new : ℕ → List Shown)
    (reply : Shown) → Serves shards taken accepted old → length (old s) < length (due shards s taken)
    → ReceivesFromShard old s reply new → Serves shards taken (accepted ++ reply ∷ []) new
serves_accept shards s taken accepted old new reply serves owed receives = record {
  within = within_more shards s taken old new reply serves.within owed receives;
  fits = λ keys.
      let p = get_below (due shards s taken) (length (old s)) owed in
      let next = next_of shards s taken old new reply p.0 p.1 receives keys in
      next_fits shards s taken accepted old new p.0 reply (serves.fits next.0) p.1 next.1 receives;
}

-- a reply that is not expected shows that the keys do not fit
pub serves_unexpected_reply : (shards s : ℕ) (taken : List Taken) (accepted : List Shown) (old new : ℕ → List Shown)
    (reply : Shown) → Serves shards taken accepted old → length (old s) < length (due shards s taken)
    → ReceivesFromShard old s reply new → (Expects (pending_replies_of shards taken) accepted reply → ⊥)
    → Serves shards taken accepted new
serves_unexpected_reply shards s taken accepted old new reply serves owed receives unexpected = record {
  within = within_more shards s taken old new reply serves.within owed receives;
  fits = λ keys.
      let p = get_below (due shards s taken) (length (old s)) owed in
      let next = next_of shards s taken old new reply p.0 p.1 receives keys in
      absurd (unexpected (next_expected shards s taken accepted old p.0 reply (serves.fits next.0) p.1 next.1));
}

reply_at : (ran : List Ran) (i : ℕ) (p : Piece) (reply : Shown) → slice_get (map (λ entry. entry.piece) ran) i ≡ Some p
    → slice_get (map reply_of ran) i ≡ Some reply → IsReplyTo p reply
reply_at [] i p reply asked came = absurd (cc)
reply_at (entry ∷ ran) zero p reply asked came =
    let piece : entry.piece ≡ p = same_Some entry.piece p asked in
    let this : reply_of entry ≡ reply = same_Some (reply_of entry) reply came in
    record {
      ticket = ap (λ (r : Shown). r.ticket) (sym this) ∙ ap (λ (x : Piece). x.ticket) piece;
      part = ap (λ (r : Shown). r.part) (sym this) ∙ ap (λ (x : Piece). x.part) piece;
      kind = ap (λ (r : Shown). r.kind) (sym this) ∙ ap (λ (x : Piece). kind_of x.op) piece;
    }
reply_at (entry ∷ ran) (suc i) p reply asked came = reply_at ran i p reply asked came

-- the keys of replies that the shards gave fit
pub keys_came : (shards : ℕ) (taken : List Taken) (received : ℕ → List Shown)
    → ((s : ℕ) → CameFrom shards s taken (received s)) → KeysFit shards taken received
keys_came shards taken received came s i p reply asked got =
    let from = came s in
    let asked_of : List Piece = map (λ entry. entry.piece) from.ran in
    let here : slice_get (map reply_of from.ran) i ≡ Some reply = ap (λ xs. slice_get xs i) (sym from.replies_are)
    ∙ got in
    let below = slice_get_within (map reply_of from.ran) i reply here in
    let within : i < length asked_of =
    omega (arith, below, length-map from.ran reply_of, length-map from.ran (λ (entry : Ran). entry.piece)) in
    let found = get_below asked_of i within in
    let whole = get_front asked_of from.rest i found.0 found.1 in
    let piece : slice_get asked_of i ≡ Some p = found.1
    ∙ (sym whole ∙ (ap (λ ps. slice_get ps i) (sym from.asked) ∙ asked)) in
    reply_at from.ran i p reply piece here
