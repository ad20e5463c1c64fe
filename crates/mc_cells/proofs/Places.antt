-- Kept values with bytes are at different places.
use Rattle.std.proofs.Common.{◌≡◌, ℕ, zero, suc, ◌+◌, ◌<◌, ◌≤◌, cond, eqb, inl, inr, List}
use Rattle.std.proofs.Common.{[], ◌∷◌, ◌++◌, None}
use Rattle.std.proofs.Common.{refl, sym, ap, arith, eq-eqb}
use Rattle.std.specs.Prelude.{slice_index_or}
use Rattle.std.specs.List.{sum_by}
use Rattle.std.proofs.lemmas.Bool.{cases_lt, le-ltb}
use Rattle.std.proofs.lemmas.List.Sums.{sum_by-cons, sum_by-append}
use Rattle.mc_cells.specs.declared.TheConstants.{LONG_VALUE}
use Rattle.mc_cells.specs.declared.place.Place.{Place}
use Rattle.mc_cells.specs.Chain.{Slots, cell_at, passes}
use Rattle.mc_cells.specs.Kept.{KeptValue, cells_of, takes}
use Rattle.mc_cells.specs.Laws.{PlacesDiffer}
use Rattle.mc_cells.proofs.Chains.{short_cells}
use Rattle.mc_cells.proofs.Counted.{used_once}

-- a chain of some cells passes its first
passes_first : (slots : Slots) (at count : ℕ) → 0 < count → 1 ≤ passes slots at count at
passes_first slots at zero some = absurd (omega (arith, some))
passes_first slots at (suc count) some =
    let itself : ◌≡◌ {A = ℕ} (cond (eqb at at) 1 0) 1 = rw (eq-eqb at at refl) refl in
    omega (arith, itself)

two_of_sum : (f : KeptValue → ℕ) (first : KeptValue) (before : List KeptValue) (second : KeptValue)
    (after : List KeptValue) → f first + f second ≤ sum_by f (first ∷ (before ++ second ∷ after))
two_of_sum f first before second after =
    omega (
      arith,
      sum_by-cons f first (before ++ second ∷ after),
      sum_by-append f before (second ∷ after),
      sum_by-cons f second after,
    )

-- Two chains, or two long values, at one place would use it twice.
pub places_differ : PlacesDiffer
places_differ contents before first second after kept some same =
    let number = first.0.first in
    elim (cases_lt first.0.len LONG_VALUE) [
      | inl short ↦
          let passing = λ (value : KeptValue). passes contents.slots number (cells_of value.0.len) value.0.first in
          let count : 0 < cells_of first.0.len = rw (short_cells first.0.len short) (omega (arith, some)) in
          let one = passes_first contents.slots number (cells_of first.0.len) count in
          let other : passing second ≡ passing first
          = ap (λ (place : Place). passes contents.slots number (cells_of place.len) place.first) (sym same) in
          omega (
            arith,
            two_of_sum passing first before second after,
            one,
            other,
            kept.cells.once number,
            used_once (cell_at contents.slots number),
          )
      | inr long ↦
          let test = le-ltb first.0.len LONG_VALUE long in
          let one : takes number first ≡ 1 = rw (test, eq-eqb number number refl) refl in
          let other : takes number second ≡ takes number first
          = ap (λ (place : Place). takes number (place, [])) (sym same) in
          omega (
            arith,
            two_of_sum (takes number) first before second after,
            one,
            other,
            kept.long.once number,
            used_once (slice_index_or contents.long number None),
          )
    ]
