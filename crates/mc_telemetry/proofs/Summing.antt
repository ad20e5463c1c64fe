-- Sums and totals, and what threads share.
use Rattle.std.proofs.Common.{◌≡◌, ℕ, ◌+◌, ◌<◌, List, [], ◌∷◌, ◌++◌, length, take, get_or, refl, sym, ap, subst, ◌∙◌}
use Rattle.std.proofs.lemmas.List.{take_more}
use Rattle.std.specs.List.{FoldsTo}
use Rattle.std.specs.declared.sync.Arc.{Arc}
use Rattle.crossbeam_utils.specs.declared.cache_padded.CachePadded.{CachePadded}
use Rattle.mc_item.specs.declared.op_stats.OpStats.{OpStats}
use Rattle.mc_telemetry.specs.declared.shard_counts.ShardCounts.{ShardCounts}
use Rattle.mc_telemetry.specs.declared.shard_counts.ShardTotals.{ShardTotals}
use Rattle.mc_telemetry.specs.Counts.{AreShown, EachIsShown, shared_value, shared_values}
use Rattle.mc_telemetry.specs.Totals.{totals_counted}

-- what the first of them share, and what one more shares
pub shared_more : {X Z : Type 0} (all : List (Arc (CachePadded X) Z)) (one : Arc (CachePadded X) Z)
    → shared_values (all ++ one ∷ []) ≡ shared_values all ++ shared_value one ∷ []
shared_more [] one = refl
shared_more (first ∷ rest) one = ap (λ xs. shared_value first ∷ xs) (shared_more rest one)

-- the first of them, and the next one
pub shared_next : {X Z : Type 0} (all : List (Arc (CachePadded X) Z)) (place : ℕ) (one : Arc (CachePadded X) Z)
    → place < length all → one ≡ get_or all place one → shared_values (take (place + 1) all)
    ≡ shared_values (take place all) ++ shared_value one ∷ []
shared_next all place one within is =
    ap shared_values (take_more all place one within ∙ ap (λ y. take place all ++ y ∷ []) (sym is))
    ∙ shared_more (take place all) one

-- steps over a list, and one more step over one more element, are steps over both
folds_on : {P A : Type 0} (R : P → A → P → Type 0) (p : P) (xs : List A) (q : P) (x : A) (r : P) → FoldsTo R p xs q
    → R q x r → FoldsTo R p (xs ++ x ∷ []) r
folds_on R p [] q x r is one = (r, subst (λ s. R s x r) (sym is) one, refl)
folds_on R p (y ∷ ys) q x r steps one = (steps.0, steps.1, folds_on R steps.0 ys q x r steps.2 one)

-- a fold over a prefix of the shared values is extended by a step for the next one
pub folds_shared : {P X Z : Type 0} (R : P → X → P → Type 0) (p : P) (all : List (Arc (CachePadded X) Z)) (place : ℕ)
    (q : P) (one : Arc (CachePadded X) Z) (r : P) → place < length all → one ≡ get_or all place one
    → FoldsTo R p (shared_values (take place all)) q → R q (shared_value one) r
    → FoldsTo R p (shared_values (take (place + 1) all)) r
folds_shared R p all place q one r within is steps next =
    subst (λ ys. FoldsTo R p ys r) (sym (shared_next all place one within is))
    (folds_on R p (shared_values (take place all)) q (shared_value one) r steps next)

-- shards with what each shows, and one more
shown_more : {C : Type 0} (told : C → ℕ → Type 0) (shards : List (ShardCounts C)) (all : List ShardTotals)
    (shard : ShardCounts C) (totals : ShardTotals) → EachIsShown told shards all → AreShown told shard totals
    → EachIsShown told (shards ++ shard ∷ []) (all ++ totals ∷ [])
shown_more told [] [] shard totals each one = (one, each)
shown_more told [] (first ∷ rest) shard totals each one = absurd each
shown_more told (first ∷ others) [] shard totals each one = absurd each
shown_more told (first ∷ others) (next ∷ rest) shard totals each one =
    (each.0, shown_more told others rest shard totals each.1 one)

-- what the first of the shards show, and what the next one shows
pub shown_next : {C Z : Type 0} (told : C → ℕ → Type 0) (shards : List (Arc (CachePadded (ShardCounts C)) Z))
    (place : ℕ) (one : Arc (CachePadded (ShardCounts C)) Z) (all : List ShardTotals) (totals : ShardTotals)
    (after : List ShardTotals) → place < length shards → one ≡ get_or shards place one → after ≡ all ++ totals ∷ []
    → EachIsShown told (shared_values (take place shards)) all → AreShown told (shared_value one) totals
    → EachIsShown told (shared_values (take (place + 1) shards)) after
shown_next told shards place one all totals after within is are each shown =
    subst (λ them. EachIsShown told (shared_values (take (place + 1) shards)) them) (sym are)
    (subst (λ them. EachIsShown told them (all ++ totals ∷ [])) (sym (shared_next shards place one within is))
    (shown_more told (shared_values (take place shards)) all (shared_value one) totals each shown))

-- equal counts make equal totals
pub same_totals : {items bytes evicted items' bytes' evicted' : ℕ} {op_stats op_stats' : OpStats} → items ≡ items'
    → bytes ≡ bytes' → evicted ≡ evicted' → op_stats ≡ op_stats'
    → totals_counted items bytes evicted op_stats ≡ totals_counted items' bytes' evicted' op_stats'
same_totals {items} {bytes} {evicted} {items'} {bytes'} {evicted'} {op_stats} items_are bytes_are evicted_are
    op_stats_is =
    ap (λ x. totals_counted x bytes evicted op_stats) items_are
    ∙ (ap (λ x. totals_counted items' x evicted op_stats) bytes_are
    ∙ (ap (λ x. totals_counted items' bytes' x op_stats) evicted_are
    ∙ ap (λ x. totals_counted items' bytes' evicted' x) op_stats_is))
