-- What holds along a permutation, and the flags given back by the words of one.
use Rattle.std.proofs.Common.{ℕ, zero, suc, ◌<◌, List, [], ◌∷◌, length, get_or, set, swap, Option, Some, None, arith}
use Rattle.std.proofs.Common.{IsPermutation}
use Rattle.std.specs.List.{filter_map, cons_option}
use Rattle.std.proofs.lemmas.List.Sorted.{IsPermutation-refl, IsPermutation-keeps, IsPermutation-trans}
use Rattle.std.proofs.lemmas.List.Sorted.{IsPermutation-cons, IsPermutation-middle}

-- A relation holds along each permutation if it is reflexive and transitive, and is preserved under a common
-- head and by exchanging two heads.
module _ {X : Type 0} (R : List X → List X → Type 0) (same : (xs : List X) → R xs xs)
    (skip : (x : X) (xs ys : List X) → R xs ys → R (x ∷ xs) (x ∷ ys))
    (turn : (x y : X) (xs : List X) → R (x ∷ y ∷ xs) (y ∷ x ∷ xs))
    (chain : (xs ys zs : List X) → R xs ys → R ys zs → R xs zs) where
  to_head : (l : List X) (j : ℕ) (x d : X) → j < length l → R (x ∷ l) (get_or l j d ∷ set l j x)
  to_head [] j x d h = absurd (omega arith)
  to_head (y ∷ l) zero x d h = turn x y l
  to_head (y ∷ l) (suc j) x d h =
      chain _ _ _ (turn x y l)
      (chain _ _ _ (skip y _ _ (to_head l j x d (omega arith))) (turn y (get_or l j d) (set l j x)))

  exchanged : (l : List X) (i j : ℕ) (d : X) → i < length l → j < length l
      → R l (set (set l i (get_or l j d)) j (get_or l i d))
  exchanged [] i j d p q = absurd (omega arith)
  exchanged (x ∷ l) zero zero d p q = same (x ∷ l)
  exchanged (x ∷ l) zero (suc j) d p q = to_head l j x d (omega arith)
  exchanged (x ∷ l) (suc i) zero d p q = to_head l i x d (omega arith)
  exchanged (x ∷ l) (suc i) (suc j) d p q = skip x _ _ (exchanged l i j d (omega arith) (omega arith))

  swapped : (l : List X) (i j : ℕ) → i < length l → j < length l → R l (swap l i j)
  swapped [] i j p q = same []
  swapped (x ∷ l) i j p q = exchanged (x ∷ l) i j x p q

  -- A relation that is reflexive, transitive and preserved by exchanging two elements holds between a list
  -- and each permutation of it.
  pub along_permutation : (xs ys : List X) → IsPermutation xs ys → R xs ys
  along_permutation xs = IsPermutation-keeps xs (R xs) (same xs) (λ l i j p q h. chain xs l _ h (swapped l i j p q))

under_head : {Y : Type 0} (first : Option Y) (xs ys : List Y) → IsPermutation xs ys
    → IsPermutation (cons_option first xs) (cons_option first ys)
under_head None xs ys moved = moved
under_head (Some first) xs ys moved = IsPermutation-cons first xs ys moved

heads_turned : {Y : Type 0} (first second : Option Y) (xs : List Y)
    → IsPermutation (cons_option first (cons_option second xs)) (cons_option second (cons_option first xs))
heads_turned None second xs = IsPermutation-refl _
heads_turned (Some first) None xs = IsPermutation-refl _
heads_turned (Some first) (Some second) xs = IsPermutation-middle (first ∷ []) second xs

-- what h gives of the elements in another order is what it gives of them, in another order
pub IsPermutation-filter_map : {X Y : Type 0} (h : X → Option Y) (xs ys : List X) → IsPermutation xs ys
    → IsPermutation (filter_map h xs) (filter_map h ys)
IsPermutation-filter_map h = along_permutation (λ xs ys. IsPermutation (filter_map h xs) (filter_map h ys))
    (λ xs. IsPermutation-refl _)
    (λ x xs ys moved. under_head (h x) _ _ moved)
    (λ x y xs. heads_turned (h x) (h y) (filter_map h xs))
    (λ xs ys zs. IsPermutation-trans _ _ _)
