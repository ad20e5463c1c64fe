-- Each step of a lease keeps the rule.
use Rattle.std.proofs.Common.{◌≡◌, ℕ, ◌+◌, ◌-◌, ◌%◌, ◌<◌, ◌≤◌, ◌==◌, Bool, true, false, List, [], ◌∷◌, refl, sym}
use Rattle.std.proofs.Common.{ap, ◌∙◌, arith, eqb-true}
use Rattle.std.specs.Prelude.{MatchBool, slice_index, slice_set}
use prog.Atomic.{either}
use Rattle.atomic_table.specs.Table.{Act, Allows, Enters, Me, State, Valid, carried_after, keeps, stepped}
use Rattle.atomic_table.proofs.Lists.{set_again}
use Rattle.mc_budget.specs.Total.{HasReturned, HasTaken, IsWithin, total}
use Rattle.mc_budget.proofs.Sums.{total_none, total_part, total_set}

-- what a lease without bytes knows
abbrev IsNew : Me ℕ ℕ → Type 0
IsNew me = me ≡ (0, [])

-- A new lease holds nothing.
pub enters_allows : (limit slots : ℕ) → Enters (IsWithin limit) slots 0 (λ found new. IsNew (new, []))
enters_allows limit slots s is count small =
    let none = total_none s.views in (
      0,
      record { word = is.word ∙ ap (λ n. n ∷ []) (sym none); within = omega (arith, is.within, none) },
      refl,
    )

-- a word less what a lease returns
less_again : (n k : ℕ) → k ≤ n → n < 18446744073709551616
    → (n + (18446744073709551616 - k)) % 18446744073709551616 ≡ n - k
less_again n k part small = omega (arith, part, small)

-- A lease returns bytes that it holds.
pub returns_allows : (limit slots id v bytes : ℕ) (c : List (ℕ × ℕ)) → bytes ≤ v
    → Allows (IsWithin limit) slots id (v, c) 0 (λ n. (n + (18446744073709551616 - bytes)) % 18446744073709551616)
    (λ found new. HasReturned bytes (v, c) new)
returns_allows limit slots id v bytes c within s is count at small =
    let n = slice_index s.words 0 in
    let word : n ≡ total s.views = ap (λ ws. slice_index ws 0) is.word in
    let part = total_part s.views id v at in
    let left = total_set s.views id v (v - bytes) at in
    let after = (n + (18446744073709551616 - bytes)) % 18446744073709551616 in
    let same : after ≡ total (slice_set s.views id (v - bytes)) =
    less_again n bytes (omega (arith, word, part, within)) small ∙ omega (arith, word, part, within, left) in (
      v - bytes,
      keeps,
      tt,
      record {
        word = ap (λ ws. slice_set ws 0 after) is.word ∙ ap (λ k. k ∷ []) same;
        within = omega (arith, is.within, left, within);
      },
      (refl, omega (arith, within)),
    )

-- what a step that may take bytes allows, by whether the word was as expected
abbrev MayTake : ℕ → ℕ → ℕ → ℕ → ℕ → List (ℕ × ℕ) → State ℕ ℕ → Bool → Type 0
MayTake limit id v old new c s b =
    (w : ℕ) × (a : Act ℕ) × Valid s.homes c a
    × IsWithin limit (stepped s 0 (either b new (slice_index s.words 0)) id c w a)
    × ((carried_after c a ≡ c) × MatchBool b (w + old ≡ v + new) (w ≡ v))

-- A lease takes bytes within the limit.
pub takes_allows : (limit slots id v old new : ℕ) (c : List (ℕ × ℕ)) → old ≤ new → new ≤ limit
    → Allows (IsWithin limit) slots id (v, c) 0 (λ n. either (n == old) new n)
    (λ found after. HasTaken old new (v, c) found after)
takes_allows limit slots id v old new c more within s is count at small =
    let n = slice_index s.words 0 in
    let word : n ≡ total s.views = ap (λ ws. slice_index ws 0) is.word in
    elim (n == old) as (λ b. (n == old) ≡ b → MayTake limit id v old new c s b) [
      | true ↦ λ found.
          let here : n ≡ old = eqb-true n old found in
          let w = v + (new - old) in
          let sum = total_set s.views id v w at in
          let same : new ≡ total (slice_set s.views id w) = omega (arith, word, here, sum, more) in (
            w,
            keeps,
            tt,
            record {
              word = ap (λ ws. slice_set ws 0 new) is.word ∙ ap (λ k. k ∷ []) same;
              within = omega (arith, same, within);
            },
            (refl, omega (arith, more)),
          )
      | false ↦ λ found.
          let same : n ≡ total (slice_set s.views id v) = word ∙ ap total (sym (set_again s.views id v at)) in (
            v,
            keeps,
            tt,
            record {
              word = ap (λ ws. slice_set ws 0 n) is.word ∙ ap (λ k. k ∷ []) same;
              within = omega (arith, is.within, word, same);
            },
            (refl, refl),
          )
    ] refl
