-- The marks of a worker's turns.
use Rattle.std.proofs.Common.{◌≡◌, ℕ, zero, suc, ◌<◌, ◌==◌, Bool, true, false, Option, Some, None, List, [], ◌∷◌}
use Rattle.std.proofs.Common.{◌++◌, length, refl, ap, sym, ◌∙◌, arith, slice_set, append-nil, inl, inr}
use Rattle.std.proofs.lemmas.Bool.Decides.{eqb_tells}
use Rattle.std.proofs.lemmas.Option.{same_Some}
use Rattle.std.specs.List.{slice_get}
use Rattle.std.specs.Option.{option_map}
use Rattle.mc_ring.specs.Ends.{sent_on}
use Rattle.mc_ring.specs.EndsLaws.{get-set_other}
use Rattle.mc_worker.specs.WorkerState.{WorkerState, in_hand}
use Rattle.mc_ring.specs.Reply.{Shown}
use Rattle.mc_worker.specs.declared.worker.Turn.{Turn}
use Rattle.mc_worker.specs.declared.worker.Turn.TheVariants.{Gave, Blocked, Nothing, Ended, Ran}
use Rattle.mc_worker.specs.Turns.{Gives, given_by}
use Rattle.mc_worker.specs.Marks.{Marks}

-- the marks

length_more : {A : Type 0} (xs : List A) (x : A) → length xs < length (xs ++ x ∷ [])
length_more [] x = omega arith
length_more (y ∷ xs) x = let e = length_more xs x in omega arith

set_within : {A : Type 0} (xs : List A) (i : ℕ) (x : A) → i < length xs → slice_get (slice_set xs i x) i ≡ Some x
set_within [] i x within = absurd (omega (arith, within))
set_within (y ∷ xs) zero x within = refl
set_within (y ∷ xs) (suc i) x within = set_within xs i x (omega (arith, within))

-- Where nothing has happened, the marks that were there are the right ones.
pub marks_refl : (worker_state : WorkerState) (marks : List Bool) → Marks worker_state worker_state marks marks
marks_refl worker_state marks seat = inl (refl, refl)

-- Marks that are right after a first change, and again after a second, are right after both together.
pub marks_trans : (a b c : WorkerState) (xs ys zs : List Bool) → Marks a b xs ys → Marks b c ys zs → Marks a c xs zs
marks_trans a b c xs ys zs first second seat = elim (first seat) [
  | inl none ↦ elim (second seat) [
    | inl none' ↦ inl (none'.0 ∙ none.0, none'.1 ∙ none.1)
    | inr some' ↦ inr (rw (← none.0) some'.0, some'.1)
  ]
  | inr some ↦ elim (second seat) [
    | inl none' ↦ inr (rw none'.0 some.0, none'.1 ∙ some.1)
    | inr some' ↦ inr (let l = some.0 in let m = some'.0 in omega arith, some'.1)
  ]
]

-- whether the turn gave a reply
abbrev pub is_gave : Turn → Bool
is_gave Gave = true
is_gave Blocked = false
is_gave Nothing = false
is_gave Ended = false
is_gave (Ran ticket part moment) = false

-- no mark where nothing is given
none_given : (turn : Turn) (seat : ℕ) (hand : Option (ℕ × Shown)) → is_gave turn ≡ false → given_by turn seat hand ≡ []
none_given Gave seat hand no_gift = absurd (let e : true ≡ false = no_gift in cc)
none_given Blocked seat hand no_gift = refl
none_given Nothing seat hand no_gift = refl
none_given Ended seat hand no_gift = refl
none_given (Ran ticket part moment) seat hand no_gift = refl

-- After a turn that gave no reply, the marks that were there are the right ones.
pub marks_none : (old : WorkerState) (turn : Turn) (new : WorkerState) (marks : List Bool) → is_gave turn ≡ false
    → Gives old turn new → Marks old new marks marks
marks_none old turn new marks no_gift gives seat =
    inl (gives seat ∙ rw (none_given turn seat old.hand no_gift) (append-nil (sent_on old.ends seat)), refl)

-- Whose reply is pending.
pub at_holder : (hand : Option (ℕ × Shown)) (holder : ℕ) → option_map (λ held. held.0) hand ≡ Some holder
    → (reply : Shown) × (hand ≡ Some (holder, reply))
at_holder None holder held = absurd (cc)
at_holder (Some (seat, reply)) holder held = (reply, ap (λ (k : ℕ). Some (k, reply)) (same_Some seat holder held))

held_for : (hand : Option (ℕ × Shown)) (holder seat : ℕ) (reply : Shown) → hand ≡ Some (holder, reply)
    → (holder == seat) ≡ true → in_hand seat hand ≡ reply ∷ []
held_for hand holder seat reply held at = rw (held, at) refl

held_for_another : (hand : Option (ℕ × Shown)) (holder seat : ℕ) (reply : Shown) → hand ≡ Some (holder, reply)
    → (holder == seat) ≡ false → in_hand seat hand ≡ []
held_for_another hand holder seat reply held at = rw (held, at) refl

-- the mark of the seat that was given a reply
pub marks_gave : (old new : WorkerState) (holder : ℕ) (marks : List Bool) → Gives old Gave new
    → option_map (λ held. held.0) old.hand ≡ Some holder → holder < length marks
    → Marks old new marks (slice_set marks holder true)
marks_gave old new holder marks gives held within seat =
    let hand = at_holder old.hand holder held in
    let sent = sent_on old.ends seat in
    elim (eqb_tells holder seat) [
      | inl at ↦ inr (
        let longer : sent_on new.ends seat ≡ sent ++ hand.0 ∷ [] =
            gives seat ∙ ap (λ xs. sent ++ xs) (held_for old.hand holder seat hand.0 hand.1 at.0) in
            rw longer (length_more sent hand.0),
        rw (← at.1) (set_within marks holder true within),
      )
      | inr other ↦ inl (
        gives seat ∙ ap (λ xs. sent ++ xs) (held_for_another old.hand holder seat hand.0 hand.1 other.0)
            ∙ append-nil sent,
        get-set_other marks holder seat true (λ e. other.1 (sym e)),
      )
    ]
