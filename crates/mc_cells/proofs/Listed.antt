-- The vacant halves.
use Rattle.std.proofs.Common.{◌≡◌, ◌≢◌, ℕ, zero, suc, ◌+◌, ◌<◌, ◌≤◌, cond, nat_lt, inl, inr, List}
use Rattle.std.proofs.Common.{[], ◌∷◌, ◌/◌}
use Rattle.std.proofs.Common.{◌++◌, ◌⊎◌, length, set, Some, refl, sym, ap, ◌∙◌, arith, ne_eqb, get_or}
use Rattle.std.proofs.lemmas.Bool.{cases_lt, lt-ltb, le-ltb}
use Rattle.std.proofs.lemmas.Option.{none-some, same_Some}
use Rattle.std.specs.List.{slice_get}
use Rattle.std.proofs.lemmas.Option.{slice_get-get_or}
use Rattle.mc_cells.specs.declared.TheConstants.{SPLIT}
use Rattle.mc_cells.specs.Chain.{Slots, cell_at, next_in}
use Rattle.mc_cells.specs.Halves.{is_number, AreLinked}

-- what is put behind all is there
pub get_last : (xs : List ℕ) (last : ℕ) → slice_get (xs ++ last ∷ []) (length xs) ≡ Some last
get_last [] last = refl
get_last (x ∷ xs) last = get_last xs last

-- what is in front stays where it was
pub get_front : (xs ys : List ℕ) (at n : ℕ) → slice_get xs at ≡ Some n → slice_get (xs ++ ys) at ≡ Some n
get_front [] ys at n here = absurd (none-some n here)
get_front (x ∷ xs) ys zero n here = here
get_front (x ∷ xs) ys (suc at) n here = get_front xs ys at n here

-- what is found is in front, or is the last
pub get_either : (xs : List ℕ) (last at n : ℕ) → slice_get (xs ++ last ∷ []) at ≡ Some n
    → (slice_get xs at ≡ Some n) ⊎ ((at ≡ length xs) × (n ≡ last))
get_either [] last zero n here = inr (refl, sym (same_Some last n here))
get_either [] last (suc at) n here = absurd (none-some n here)
get_either (x ∷ xs) last zero n here = inl here
get_either (x ∷ xs) last (suc at) n here =
    elim (get_either xs last at n here) [
      | inl front ↦ inl front
      | inr end ↦ inr (ap suc end.0, end.1)
    ]

-- what is written is there
pub get_set_same : (xs : List ℕ) (at m : ℕ) → at < length xs → slice_get (set xs at m) at ≡ Some m
get_set_same [] at m within = absurd (omega (arith, within))
get_set_same (x ∷ xs) zero m within = refl
get_set_same (x ∷ xs) (suc at) m within = get_set_same xs at m (omega (arith, within))

-- the others stay where one is written
pub get_set_other : (xs : List ℕ) (at m place : ℕ) → place ≢ at → slice_get (set xs at m) place ≡ slice_get xs place
get_set_other [] at m place apart = refl
get_set_other (x ∷ xs) zero m zero apart = absurd (apart refl)
get_set_other (x ∷ xs) zero m (suc place) apart = refl
get_set_other (x ∷ xs) (suc at) m zero apart = refl
get_set_other (x ∷ xs) (suc at) m (suc place) apart = get_set_other xs at m place (λ e. apart (ap suc e))

-- what is found is within the list
pub get_inside : (xs : List ℕ) (at n : ℕ) → slice_get xs at ≡ Some n → at < length xs
get_inside [] at n here = absurd (none-some n here)
get_inside (x ∷ xs) zero n here = omega arith
get_inside (x ∷ xs) (suc at) n here = omega (arith, get_inside xs at n here)

-- another number is where it was once one is put behind all
pub test_last : (xs : List ℕ) (last other at : ℕ) → other ≢ last
    → is_number other (slice_get (xs ++ last ∷ []) at) ≡ is_number other (slice_get xs at)
test_last [] last other zero apart = ne_eqb last other (λ e. apart (sym e))
test_last [] last other (suc at) apart = refl
test_last (x ∷ xs) last other zero apart = refl
test_last (x ∷ xs) last other (suc at) apart = test_last xs last other at apart

-- another number is where it was once one is put in place of one
pub test_set : (xs : List ℕ) (at m other place was : ℕ) → slice_get xs at ≡ Some was → other ≢ was → other ≢ m
    → is_number other (slice_get (set xs at m) place) ≡ is_number other (slice_get xs place)
test_set [] at m other place was here apart differ = refl
test_set (x ∷ xs) zero m other zero was here apart differ =
    let is = same_Some x was here in
    ne_eqb m other (λ e. differ (sym e)) ∙ sym (ne_eqb x other (λ e. apart (sym e ∙ is)))
test_set (x ∷ xs) zero m other (suc place) was here apart differ = refl
test_set (x ∷ xs) (suc at) m other zero was here apart differ = refl
test_set (x ∷ xs) (suc at) m other (suc place) was here apart differ =
    test_set xs at m other place was here apart differ

-- how many links are less
abbrev lesser : ℕ → Slots → ℕ
lesser m [] = 0
lesser m (slot ∷ slots) = cond (nat_lt (next_in slot) (SPLIT + m)) 1 0 + lesser m slots

more_lesser : (m : ℕ) (slots : Slots) → lesser m slots ≤ lesser (suc m) slots
more_lesser m [] = omega arith
more_lesser m (slot ∷ slots) =
    elim (cases_lt (next_in slot) (SPLIT + m)) [
      | inl less ↦
          rw (lt-ltb (next_in slot) (SPLIT + m) less, lt-ltb (next_in slot) (SPLIT + suc m) (omega (arith, less)))
          (omega (arith, more_lesser m slots))
      | inr not_less ↦
          rw (le-ltb (next_in slot) (SPLIT + m) not_less) (omega (arith, more_lesser m slots))
    ]

one_lesser : (m : ℕ) (slots : Slots) (n : ℕ) → next_in (cell_at slots n) ≡ SPLIT + m
    → lesser m slots + 1 ≤ lesser (suc m) slots
one_lesser m [] n here = absurd (omega (arith, here))
one_lesser m (slot ∷ slots) zero here =
    rw (
      le-ltb (next_in slot) (SPLIT + m) (omega (arith, here)),
      lt-ltb (next_in slot) (SPLIT + suc m) (omega (arith, here)),
    ) (omega (arith, more_lesser m slots))
one_lesser m (slot ∷ slots) (suc n) here =
    elim (cases_lt (next_in slot) (SPLIT + m)) [
      | inl less ↦
          rw (lt-ltb (next_in slot) (SPLIT + m) less, lt-ltb (next_in slot) (SPLIT + suc m) (omega (arith, less)))
          (omega (arith, one_lesser m slots n here))
      | inr not_less ↦
          rw (le-ltb (next_in slot) (SPLIT + m) not_less) (omega (arith, one_lesser m slots n here))
    ]

most_lesser : (m : ℕ) (slots : Slots) → lesser m slots ≤ length slots
most_lesser m [] = omega arith
most_lesser m (slot ∷ slots) =
    elim (cases_lt (next_in slot) (SPLIT + m)) [
      | inl less ↦ rw (lt-ltb (next_in slot) (SPLIT + m) less) (omega (arith, most_lesser m slots))
      | inr not_less ↦ rw (le-ltb (next_in slot) (SPLIT + m) not_less) (omega (arith, most_lesser m slots))
    ]

all_lesser : (halves : List ℕ) (slots : Slots) (m : ℕ) → AreLinked halves slots → m ≤ length halves → m ≤ lesser m slots
all_lesser halves slots zero linked most = omega arith
all_lesser halves slots (suc m) linked most =
    let number = get_or halves m 0 in
    let here = slice_get-get_or halves m 0 (omega (arith, most)) in
    omega (
      arith,
      one_lesser m slots (number / 2) (linked m number here),
      all_lesser halves slots m linked (omega (arith, most)),
    )

-- Each vacant half has a cell of its own.
pub halves_few : (halves : List ℕ) (slots : Slots) → AreLinked halves slots → length halves ≤ length slots
halves_few halves slots linked =
    let all = all_lesser halves slots (length halves) linked (omega arith) in
    omega (arith, all, most_lesser (length halves) slots)
