-- Values more and less, short ones and long ones.
use Rattle.std.proofs.Common.{◌≡◌, ℕ, ap, length-take, ◌+◌, ◌<◌, ◌≤◌, cond, eqb, List, [], ◌∷◌, length}
use Rattle.std.proofs.Common.{◌++◌, inl, inr, Some, None, refl, sym, ◌∙◌, arith, eq-eqb}
use Rattle.std.specs.Prelude.{slice_index_or}
use Rattle.std.specs.List.{sum_by, AllByRecursion}
use Rattle.std.proofs.lemmas.Bool.{lt-ltb, le-ltb, cases_lt}
use Rattle.std.proofs.lemmas.List.Sums.{sum_by-cons, sum_by-append}
use Rattle.mc_cells.specs.declared.TheConstants.{LONG_VALUE}
use Rattle.mc_cells.specs.Pool.{IsAdded}
use Rattle.mc_cells.specs.Chain.{Slots, chain_bytes}
use Rattle.mc_cells.specs.Kept.{KeptValue, LongSlots, place_at, used, cells_of, slots_of}
use Rattle.mc_cells.specs.Kept.{takes, IsSpelled, CellsHold, SlotsHold}
use Rattle.mc_cells.specs.Laws.{KeptIsThere, OrderIsFree}
use Rattle.mc_cells.proofs.Added.{used_added, beside_from_kept, kept_from_beside, beside_none, kept_alone}

-- a long value takes no cells
pub long_cells : (len : ℕ) → LONG_VALUE ≤ len → cells_of len ≡ 0
long_cells len long = rw (le-ltb len LONG_VALUE long) refl

-- the cells once a long value is kept elsewhere
pub cells_with_long : (slots : Slots) (first len : ℕ) (value : List ℕ) (kept : List KeptValue) → LONG_VALUE ≤ len
    → length value ≡ len → CellsHold slots kept → CellsHold slots ((place_at first len, value) ∷ kept)
cells_with_long slots first len value kept long count hold =
    kept_from_beside slots first len value kept (rw (long_cells len long) (beside_none slots first kept hold)) count
    (λ short. absurd (omega (arith, short, long)))

-- the cells once a long value is not kept elsewhere any more
pub cells_without_long : (slots : Slots) (first len : ℕ) (value : List ℕ) (kept : List KeptValue) → LONG_VALUE ≤ len
    → CellsHold slots ((place_at first len, value) ∷ kept) → CellsHold slots kept
cells_without_long slots first len value kept long hold =
    kept_alone slots first kept (rw (long_cells len long) at (beside_from_kept slots first len value kept hold))

takes_cons : (number : ℕ) (value : KeptValue) (kept : List KeptValue)
    → sum_by (takes number) (value ∷ kept) ≡ takes number value + sum_by (takes number) kept
takes_cons number value kept = sum_by-cons (takes number) value kept

slots_cons : (value : KeptValue) (kept : List KeptValue)
    → sum_by (λ (value : KeptValue). slots_of value.0.len) (value ∷ kept)
    ≡ slots_of value.0.len + sum_by (λ (value : KeptValue). slots_of value.0.len) kept
slots_cons value kept = sum_by-cons (λ (value : KeptValue). slots_of value.0.len) value kept

-- the slots of long values once a short one is not kept elsewhere any more
pub slots_without_short : (long : LongSlots) (first len : ℕ) (value : List ℕ) (kept : List KeptValue)
    → len < LONG_VALUE → SlotsHold long ((place_at first len, value) ∷ kept) → SlotsHold long kept
slots_without_short long first len value kept short hold =
    let this : KeptValue = (place_at first len, value) in
    let test = lt-ltb len LONG_VALUE short in
    let none : (number : ℕ) → takes number this ≡ 0 = λ number. rw test refl in
    let no_slot : slots_of len ≡ 0 = rw test refl in
    record {
      whole = hold.whole.1;
      once = λ number. omega (arith, takes_cons number this kept, none number, hold.once number);
      counted = omega (arith, slots_cons this kept, no_slot, hold.counted);
    }

-- long values stay where another slot is filled
whole_added : (old new : LongSlots) (number : ℕ) (added_value : List ℕ) (kept : List KeptValue)
    → IsAdded old new number added_value →
    AllByRecursion (λ (value : KeptValue). LONG_VALUE ≤ value.0.len → slice_index_or old value.0.first None
    ≡ Some value.1) kept
    → AllByRecursion (λ (value : KeptValue). LONG_VALUE ≤ value.0.len → slice_index_or new value.0.first None
    ≡ Some value.1) kept
whole_added old new number added_value [] added whole = tt {0}
whole_added old new number added_value (value ∷ kept) added whole = (
  λ large.
      let here = whole.0 large in
      added.others value.0.first (λ same. absurd (cc (rw same at here, added.vacant))) ∙ here,
  whole_added old new number added_value kept added whole.1,
)

-- a long value more
pub slots_with_long : (old new : LongSlots) (number : ℕ) (value : List ℕ) (kept : List KeptValue)
    → LONG_VALUE ≤ length value → IsAdded old new number value → SlotsHold old kept
    → SlotsHold new ((place_at number (length value), value) ∷ kept)
slots_with_long old new number value kept long added hold =
    let this : KeptValue = (place_at number (length value), value) in
    let test = le-ltb (length value) LONG_VALUE long in
    let one : (other : ℕ) → takes other this ≡ cond (eqb number other) 1 0 = λ other. rw test refl in
    let slot : slots_of (length value) ≡ 1 = rw test refl in
    record {
      whole = (λ large. added.here, whole_added old new number value kept added hold.whole);
      once = λ other. omega (
        arith,
        takes_cons other this kept,
        one other,
        hold.once other,
        used_added old new number value added other,
      );
      counted = omega (arith, slots_cons this kept, slot, hold.counted, added.counted);
    }

-- the long values whose slots are others stay where a slot is emptied
whole_taken : (old new : LongSlots) (number : ℕ) (taken_value : List ℕ) (kept : List KeptValue)
    → IsAdded new old number taken_value → sum_by (takes number) kept ≡ 0 →
    AllByRecursion (λ (value : KeptValue). LONG_VALUE ≤ value.0.len → slice_index_or old value.0.first None
    ≡ Some value.1) kept
    → AllByRecursion (λ (value : KeptValue). LONG_VALUE ≤ value.0.len → slice_index_or new value.0.first None
    ≡ Some value.1) kept
whole_taken old new number taken_value [] taken none whole = tt {0}
whole_taken old new number taken_value (value ∷ kept) taken none whole =
    let split = takes_cons number value kept in
    let first : takes number value ≡ 0 = omega (arith, split, none) in (
      λ large.
          let test = le-ltb value.0.len LONG_VALUE large in
          let here : cond (eqb value.0.first number) 1 0 ≡ 0 = rw test at first in
          sym (taken.others value.0.first (λ same. omega (arith, rw (eq-eqb value.0.first number same) at here)))
          ∙ whole.0 large,
      whole_taken old new number taken_value kept taken (omega (arith, split, none)) whole.1,
    )

-- a long value less
pub slots_without_long : (old new : LongSlots) (number len : ℕ) (value taken_value : List ℕ) (kept : List KeptValue)
    → LONG_VALUE ≤ len → IsAdded new old number taken_value → SlotsHold old ((place_at number len, value) ∷ kept)
    → SlotsHold new kept
slots_without_long old new number len value taken_value kept long taken hold =
    let this : KeptValue = (place_at number len, value) in
    let test = le-ltb len LONG_VALUE long in
    let one : (other : ℕ) → takes other this ≡ cond (eqb number other) 1 0 = λ other. rw test refl in
    let slot : slots_of len ≡ 1 = rw test refl in
    let split = takes_cons number this kept in
    let itself : ◌≡◌ {A = ℕ} (cond (eqb number number) 1 0) 1 = rw (eq-eqb number number refl) refl in
    let full : used (slice_index_or old number None) ≡ 1 = rw taken.here refl in
    record {
      whole = whole_taken old new number taken_value kept taken (omega (
        arith,
        split,
        one number,
        itself,
        full,
        hold.once number,
      )) hold.whole.1;
      once = λ other. omega (
        arith,
        takes_cons other this kept,
        one other,
        hold.once other,
        used_added new old number taken_value taken other,
      );
      counted = omega (arith, slots_cons this kept, slot, hold.counted, taken.counted);
    }

-- a sum does not depend on the order
sum_front : (f : KeptValue → ℕ) (before : List KeptValue) (value : KeptValue) (after : List KeptValue)
    → sum_by f (value ∷ (before ++ after)) ≡ sum_by f (before ++ value ∷ after)
sum_front f before value after =
    omega (
      arith,
      sum_by-cons f value (before ++ after),
      sum_by-append f before after,
      sum_by-append f before (value ∷ after),
      sum_by-cons f value after,
    )

all_front : (P : KeptValue → Type 0) (before : List KeptValue) (value : KeptValue) (after : List KeptValue)
    → AllByRecursion P (before ++ value ∷ after) → AllByRecursion P (value ∷ (before ++ after))
all_front P [] value after all = all
all_front P (first ∷ before) value after all =
    let rest = all_front P before value after all.1 in
    (rest.0, (all.0, rest.1))

-- The order of the values does not matter: any can be taken first.
pub kept_front : OrderIsFree
kept_front contents before value after kept =
    record {
      cells = record {
        spelled = all_front (IsSpelled contents.slots) before value after kept.cells.spelled;
        once = λ number. sum_front _ before value after ∙ kept.cells.once number;
        counted = kept.cells.counted ∙ sym (sum_front _ before value after);
      };
      few = kept.few;
      long = record {
        whole = all_front _ before value after kept.long.whole;
        once = λ number. sum_front _ before value after ∙ kept.long.once number;
        counted = kept.long.counted ∙ sym (sum_front _ before value after);
      };
    }

-- A kept value is at its place.
pub kept_is_there : KeptIsThere
kept_is_there contents before place value after kept =
    let front = kept_front contents before (place, value) after kept in
    let spelled = front.cells.spelled.0 in
    let whole = front.long.whole.0 in
    record {
      has = record {
        chain = spelled.chain;
        whole = λ short. omega (
          arith,
          spelled.len,
          ap (λ xs. length xs) (spelled.bytes short),
          length-take place.len (chain_bytes contents.slots (cells_of place.len) place.first),
        );
        long = λ large. rw (whole large) refl;
      };
      here = elim (cases_lt place.len LONG_VALUE) [
        | inl short ↦
            let test = lt-ltb place.len LONG_VALUE short in
            rw test (rw test at (spelled.bytes short))
        | inr large ↦ rw (le-ltb place.len LONG_VALUE large, whole large) refl
      ];
    }
