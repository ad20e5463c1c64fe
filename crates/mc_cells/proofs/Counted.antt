-- How many slots are in use.
use Rattle.std.proofs.Common.{◌≡◌, ◌≢◌, ◌≤◌, ℕ, zero, suc, ◌+◌, cond, List, [], ◌∷◌, drop, Option, Some, None}
use Rattle.std.proofs.Common.{is_some, count_by, get_or, refl, sym, ap, ◌∙◌, arith}
use Rattle.std.proofs.lemmas.List.Sums.{sum_by-cons}
use Rattle.mc_cells.specs.Kept.{used}

-- how many are in use, by the first
pub count_cons : {T : Type 0} (x : Option T) (xs : List (Option T))
    → count_by is_some (x ∷ xs) ≡ cond (is_some x) 1 0 + count_by is_some xs
count_cons {T} x xs = sum_by-cons (λ (slot : Option T). cond (is_some slot) 1 0) x xs

-- a slot is in use at most once
pub used_once : {T : Type 0} (slot : Option T) → used slot ≤ 1
used_once None = omega arith
used_once (Some value) = omega arith

-- lists with the same in each place have as many in use, whatever their lengths are
same_count : {T : Type 0} (old new : List (Option T)) → ((n : ℕ) → get_or new n None ≡ get_or old n None)
    → count_by is_some new ≡ count_by is_some old
same_count [] [] same = refl
same_count [] (y ∷ ys) same =
    let head : ◌≡◌ {A = ℕ} (cond (is_some y) 1 0) 0 = rw (same 0) refl in
    omega (arith, count_cons y ys, head, same_count [] ys (λ n. same (suc n)))
same_count (x ∷ xs) [] same =
    let head : ◌≡◌ {A = ℕ} (cond (is_some x) 1 0) 0 = rw (← same 0) refl in
    omega (arith, count_cons x xs, head, same_count xs [] (λ n. same (suc n)))
same_count {T} (x ∷ xs) (y ∷ ys) same =
    let head : ◌≡◌ {A = ℕ} (cond (is_some y) 1 0) (cond (is_some x) 1 0)
    = ap (λ (slot : Option T). cond (is_some slot) 1 0) (same 0) in
    omega (arith, count_cons x xs, count_cons y ys, head, same_count xs ys (λ n. same (suc n)))

count_first : {T : Type 0} (xs : List (Option T))
    → count_by is_some xs ≡ used (get_or xs 0 None) + count_by is_some (drop 1 xs)
count_first [] = refl
count_first (x ∷ xs) = count_cons x xs

get_rest : {T : Type 0} (xs : List (Option T)) (n : ℕ) → get_or (drop 1 xs) n None ≡ get_or xs (suc n) None
get_rest [] n = refl
get_rest (x ∷ xs) n = refl

-- one slot more in use
pub one_more : {T : Type 0} (old new : List (Option T)) (number : ℕ) (value : T) → get_or old number None ≡ None
    → get_or new number None ≡ Some value
    → ((other : ℕ) → other ≢ number → get_or new other None ≡ get_or old other None)
    → count_by is_some new ≡ count_by is_some old + 1
one_more old new zero value vacant here others =
    let before : used (get_or old 0 None) ≡ 0 = rw vacant refl in
    let after : used (get_or new 0 None) ≡ 1 = rw here refl in
    let rest = same_count (drop 1 old) (drop 1 new)
    (λ n. get_rest new n ∙ others (suc n) (λ e. absurd (omega (arith, e))) ∙ sym (get_rest old n)) in
    omega (arith, count_first old, count_first new, before, after, rest)
one_more old new (suc number) value vacant here others =
    let head = ap used (others 0 (λ e. absurd (omega (arith, e)))) in
    let rest = one_more (drop 1 old) (drop 1 new) number value (get_rest old number ∙ vacant)
    (get_rest new number ∙ here)
    (λ n apart. get_rest new n ∙ others (suc n) (λ e. apart (omega (arith, e))) ∙ sym (get_rest old n)) in
    omega (arith, count_first old, count_first new, head, rest)
