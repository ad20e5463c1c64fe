-- The sum of what leases hold, when one of them changes.
use Rattle.std.proofs.Common.{◌≡◌, ℕ, zero, suc, ◌+◌, ◌≤◌, List, [], ◌∷◌, ◌++◌, refl, sym, ap, arith}
use Rattle.std.specs.Prelude.{slice_set}
use mathlib.Core.Option.{some, some-injective, some-ne-none}
use lib.ListN.{get_elem?}
use Rattle.mc_budget.specs.Total.{total}

-- The sum, once one part of it has changed.
pub total_set : (views : List ℕ) (id v w : ℕ) → get_elem? views id ≡ some v
    → total (slice_set views id w) + v ≡ total views + w
total_set [] id v w at = absurd (some-ne-none v (sym at))
total_set (x ∷ xs) zero v w at = let e : x ≡ v = some-injective x v at in omega (arith, e)
total_set (x ∷ xs) (suc id) v w at = let rest = total_set xs id v w at in omega (arith, rest)

-- A part is at most the sum.
pub total_part : (views : List ℕ) (id v : ℕ) → get_elem? views id ≡ some v → v ≤ total views
total_part [] id v at = absurd (some-ne-none v (sym at))
total_part (x ∷ xs) zero v at = let e : x ≡ v = some-injective x v at in omega (arith, e)
total_part (x ∷ xs) (suc id) v at = let rest = total_part xs id v at in omega (arith, rest)

-- The sum with a part of 0 more.
pub total_none : (views : List ℕ) → total (views ++ 0 ∷ []) ≡ total views
total_none [] = refl
total_none (x ∷ xs) = ap (λ n. x + n) (total_none xs)
