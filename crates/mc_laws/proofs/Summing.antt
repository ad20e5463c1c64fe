-- Sums over numbers, and over the connections of a world, that are no greater or less than others.
use Rattle.std.proofs.Common.{◌≡◌, ℕ, zero, suc, ◌+◌, ◌<◌, ◌≤◌, ◌==◌, inl, inr, List, [], ◌∷◌, set, Some, refl, sym}
use Rattle.std.proofs.Common.{subst, arith}
use Rattle.std.specs.Prelude.{if◌then◌else◌}
use Rattle.std.specs.List.{slice_get}
use Rattle.std.proofs.lemmas.Bool.{cases_eq}
use Rattle.std.proofs.lemmas.Bool.Decides.{eqb_tells}
use Rattle.std.proofs.lemmas.Option.{same_Some}

-- the sum of what f gives to the numbers below n
abbrev pub sum_to : ℕ → (ℕ → ℕ) → ℕ
sum_to zero f = 0
sum_to (suc n) f = f n + sum_to n f

-- A sum is no greater than another where none of its terms is.
pub sum_le : (n : ℕ) (f g : ℕ → ℕ) → ((i : ℕ) → g i ≤ f i) → sum_to n g ≤ sum_to n f
sum_le zero f g each = omega arith
sum_le (suc n) f g each = let here = each n in let rest = sum_le n f g each in omega (arith, here, rest)

-- A sum is less than another where none of its terms is greater, and one of those added is less.
pub sum_lt : (n : ℕ) (f g : ℕ → ℕ) (k : ℕ) → ((i : ℕ) → g i ≤ f i) → k < n → g k < f k → sum_to n g < sum_to n f
sum_lt zero f g k each within less = absurd (omega (arith, within))
sum_lt (suc n) f g k each within less = elim (cases_eq k n) [
  | inl same ↦
      let here : g n < f n = subst (λ i. g i < f i) same less in
      let rest = sum_le n f g each in
      omega (arith, here, rest)
  | inr other ↦
      let here = each n in
      let rest = sum_lt n f g k each (omega (arith, within, other)) less in
      omega (arith, here, rest)
]

-- A sum of terms that are each at most two others together is at most the sums of these together.
pub sum_more : (n : ℕ) (f g h : ℕ → ℕ) → ((i : ℕ) → g i ≤ f i + h i) → sum_to n g ≤ sum_to n f + sum_to n h
sum_more zero f g h each = omega arith
sum_more (suc n) f g h each = let here = each n in let rest = sum_more n f g h each in omega (arith, here, rest)

-- A sum of nothing but zeros is 0.
pub sum_none : (n : ℕ) → sum_to n (λ i. 0) ≤ 0
sum_none zero = omega arith
sum_none (suc n) = let rest = sum_none n in omega (arith, rest)

-- c at one number, and nothing elsewhere
abbrev pub at_point : ℕ → ℕ → ℕ → ℕ
at_point k c i = if k == i then c else 0

sum_beyond : (n k c : ℕ) → n ≤ k → sum_to n (at_point k c) ≤ 0
sum_beyond zero k c beyond = omega arith
sum_beyond (suc n) k c beyond = elim (eqb_tells k n) [
  | inl here ↦ let e = here.1 in absurd (omega (arith, e, beyond))
  | inr other ↦ let rest = sum_beyond n k c (omega (arith, beyond)) in rw other.0 (omega (arith, rest))
]

-- A sum of one number at one place, and zeros elsewhere, is at most that number.
pub sum_point : (n k c : ℕ) → sum_to n (at_point k c) ≤ c
sum_point zero k c = omega arith
sum_point (suc n) k c = elim (eqb_tells k n) [
  | inl here ↦ let e = here.1 in let rest = sum_beyond n k c (omega (arith, e)) in rw here.0 (omega (arith, rest))
  | inr other ↦ let rest = sum_point n k c in rw other.0 (omega (arith, rest))
]

-- the sum of what f gives to the elements and their places, the first of which has this number
abbrev pub sum_over : {X : Type 0} → (ℕ → X → ℕ) → ℕ → List X → ℕ
sum_over f number [] = 0
sum_over f number (x ∷ xs) = f number x + sum_over f (number + 1) xs

-- one element gives less
pub set_lowers : {X : Type 0} (f : ℕ → X → ℕ) (number : ℕ) (xs : List X) (k : ℕ) (x new : X) → slice_get xs k ≡ Some x
    → f (number + k) new < f (number + k) x → sum_over f number (set xs k new) < sum_over f number xs
set_lowers f number [] k x new here less = absurd (cc)
set_lowers f number (y ∷ xs) zero x new here less =
    let at : number + 0 ≡ number = omega arith in
    let this : f number new < f number y =
    subst (λ n. f n new < f n y) at (subst (λ z. f (number + 0) new < f (number + 0) z) (sym (same_Some y x here)) less)
    in
    omega (arith, this)
set_lowers f number (y ∷ xs) (suc k) x new here less =
    let at : number + suc k ≡ number + 1 + k = omega arith in
    let rest = set_lowers f (number + 1) xs k x new here (subst (λ n. f n new < f n x) at less) in
    omega (arith, rest)

-- smaller values at the same elements give no greater sum
pub over_le : {X : Type 0} (f g : ℕ → X → ℕ) (number : ℕ) (xs : List X)
    → ((i : ℕ) (x : X) → slice_get xs i ≡ Some x → g (number + i) x ≤ f (number + i) x)
    → sum_over g number xs ≤ sum_over f number xs
over_le f g number [] each = omega arith
over_le f g number (y ∷ xs) each =
    let at : number + 0 ≡ number = omega arith in
    let here : g number y ≤ f number y = subst (λ n. g n y ≤ f n y) at (each 0 y refl) in
    let rest = over_le f g (number + 1) xs
    (λ i x at_i. let e : number + suc i ≡ number + 1 + i = omega arith in
    subst (λ n. g n x ≤ f n x) e (each (suc i) x at_i)) in
    omega (arith, here, rest)

-- and one of them gives less
pub over_lt : {X : Type 0} (f g : ℕ → X → ℕ) (number : ℕ) (xs : List X) (k : ℕ) (x : X) → slice_get xs k ≡ Some x
    → ((i : ℕ) (x : X) → slice_get xs i ≡ Some x → g (number + i) x ≤ f (number + i) x)
    → g (number + k) x < f (number + k) x → sum_over g number xs < sum_over f number xs
over_lt f g number [] k x here each less = absurd (cc)
over_lt f g number (y ∷ xs) zero x here each less =
    let at : number + 0 ≡ number = omega arith in
    let this : g number y < f number y =
    subst (λ n. g n y < f n y) at (subst (λ z. g (number + 0) z < f (number + 0) z) (sym (same_Some y x here)) less) in
    let rest = over_le f g (number + 1) xs
    (λ i x at_i. let e : number + suc i ≡ number + 1 + i = omega arith in
    subst (λ n. g n x ≤ f n x) e (each (suc i) x at_i)) in
    omega (arith, this, rest)
over_lt f g number (y ∷ xs) (suc k) x here each less =
    let zero_at : number + 0 ≡ number = omega arith in
    let first : g number y ≤ f number y = subst (λ n. g n y ≤ f n y) zero_at (each 0 y refl) in
    let at : number + suc k ≡ number + 1 + k = omega arith in
    let rest = over_lt f g (number + 1) xs k x here
    (λ i x at_i. let e : number + suc i ≡ number + 1 + i = omega arith in
    subst (λ n. g n x ≤ f n x) e (each (suc i) x at_i)) (subst (λ n. g n x < f n x) at less) in
    omega (arith, first, rest)
