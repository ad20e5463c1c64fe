-- The shards that a seat calls, one after another.
use Rattle.std.proofs.Common.{◌≡◌, ◌==◌, ◌+◌, ◌<◌, ◌≤◌, ◌||◌, ℕ, true, false, List, [], ◌∷◌, ◌++◌, length, Some, IsTrue}
use Rattle.std.proofs.Common.{ap, sym, refl, ◌∙◌, arith, inl, inr, slice_set}
use Rattle.std.specs.List.{list_any, slice_get}
use Rattle.std.proofs.lemmas.Bool.{cases_eq, cases_lt, eq-eqb, or_left}
use Rattle.std.proofs.lemmas.List.Folds.{list_any-append}
use Rattle.std.proofs.lemmas.Option.{same_Some, slice_get_within}
use Rattle.std.proofs.Math.Bool.{or-true}
use Rattle.mc_ring.specs.EndsLaws.{get-set_other}
use Rattle.mc_session.specs.Serving.{AreCalled}

-- a shard that was called was called still, after another one was
called_still : (shard more : ℕ) (called : List ℕ) → IsTrue (list_any (λ one. one == shard) called)
    → IsTrue (list_any (λ one. one == shard) (called ++ more ∷ []))
called_still shard more called was =
    list_any-append (λ one. one == shard) called (more ∷ [])
    ∙ or_left (list_any (λ one. one == shard) called) (list_any (λ one. one == shard) (more ∷ [])) was

-- the last one was called
called_last : (shard : ℕ) (called : List ℕ) → IsTrue (list_any (λ one. one == shard) (called ++ shard ∷ []))
called_last shard called =
    let last : list_any (λ one. one == shard) (shard ∷ []) ≡ true =
    or_left (shard == shard) false (eq-eqb shard shard refl) in
    list_any-append (λ one. one == shard) called (shard ∷ [])
    ∙ ap (λ b. list_any (λ one. one == shard) called || b) last ∙ or-true (list_any (λ one. one == shard) called)

-- Of the shards below a bound those of which replies are awaited were called.
abbrev pub AreCalledBelow : ℕ → List ℕ → List ℕ → Type 0
AreCalledBelow bound called ways =
    (shard count : ℕ) → shard < bound → slice_get ways shard ≡ Some count → 0 < count
    → IsTrue (list_any (λ one. one == shard) called)

-- Once the next shard is called too, of all up to it those of which replies are awaited were called.
pub below_called : (bound : ℕ) (called ways : List ℕ) → AreCalledBelow bound called ways
    → AreCalledBelow (bound + 1) (called ++ bound ∷ []) ways
below_called bound called ways all shard count below found some = elim (cases_lt shard bound) [
  | inl less ↦ called_still shard bound called (all shard count less found some)
  | inr beyond ↦ let is : shard ≡ bound = omega (arith, below, beyond) in rw is (called_last bound called)
]

-- The next shard need not be called where no replies are awaited of it.
pub below_idle : (bound was : ℕ) (called ways : List ℕ) → slice_get ways bound ≡ Some was → was ≤ 0
    → AreCalledBelow bound called ways → AreCalledBelow (bound + 1) called ways
below_idle bound was called ways counted none all shard count below found some = elim (cases_lt shard bound) [
  | inl less ↦ all shard count less found some
  | inr beyond ↦
      let is : shard ≡ bound = omega (arith, below, beyond) in
      let same : count ≡ was = same_Some count was (sym found ∙ ap (λ k. slice_get ways k) is ∙ counted) in
      absurd (omega (arith, same, none, some))
]

-- Once all shards were gone through, each of which replies are awaited was called.
pub all_below : (bound : ℕ) (called ways : List ℕ) → bound ≡ length ways → AreCalledBelow bound called ways
    → AreCalled called ways
all_below bound called ways whole all shard count found some =
    let within : shard < length ways = slice_get_within ways shard count found in
    all shard count (omega (arith, whole, within)) found some

-- one reply less is awaited of a shard
pub called_after : (called ways : List ℕ) (shard left was : ℕ) → slice_get ways shard ≡ Some was → was ≡ left + 1
    → AreCalled called ways → AreCalled called (slice_set ways shard left)
called_after called ways shard left was counted less all one count found some = elim (cases_eq one shard) [
  | inl is ↦ all one was (ap (λ k. slice_get ways k) is ∙ counted) (omega (arith, less))
  | inr other ↦ all one count (sym (get-set_other ways shard one left other) ∙ found) some
]
