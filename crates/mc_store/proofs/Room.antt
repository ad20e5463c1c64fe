-- There is room for the value of one item more than fit the budget.
use Rattle.std.proofs.Common.{◌≡◌, ℕ, ◌+◌, ◌*◌, ◌≤◌}
use Rattle.std.proofs.Common.{List, [], ◌∷◌, inl, inr}
use Rattle.std.proofs.Common.{arith, map, length}
use Rattle.std.proofs.lemmas.Bool.{cases_lt, lt-ltb, le-ltb}
use Rattle.std.proofs.lemmas.List.Sums.{sum_by-cons}
use Rattle.std.specs.List.{AllByRecursion, sum_by}
use Rattle.mc_cells.specs.declared.TheConstants.{LONG_VALUE}
use Rattle.mc_cells.specs.Contents.{Contents, HasRoom, value_at}
use Rattle.mc_cells.specs.Kept.{KeptValue, IsSpelled, cells_of, slots_of}
use Rattle.mc_store.specs.internal.Stored.{place_in}
use Rattle.mc_store.specs.internal.Listed.{entry_cost, listed_cost}
use Rattle.mc_store.specs.internal.Cached.{StoredEntry, shown_entry, shown_entries, kept_value}
use Rattle.mc_store.specs.internal.Cached.{AreCached}

-- a short value takes no more cells than its cost has room for
cells_cost : (len : ℕ) → cells_of len * 60 ≤ len + 59
cells_cost len =
    elim (cases_lt len LONG_VALUE) [
      | inl short ↦ rw (lt-ltb len LONG_VALUE short) (omega arith)
      | inr long ↦ rw (le-ltb len LONG_VALUE long) (omega arith)
    ]

slots_cost : (len : ℕ) → slots_of len * 8192 ≤ len
slots_cost len =
    elim (cases_lt len LONG_VALUE) [
      | inl short ↦ rw (lt-ltb len LONG_VALUE short) (omega arith)
      | inr long ↦ rw (le-ltb len LONG_VALUE long) (omega (arith, long))
    ]

-- the cells and slots of a value that comes
cells_few : (len : ℕ) → cells_of len ≤ 137
cells_few len =
    elim (cases_lt len LONG_VALUE) [
      | inl short ↦ rw (lt-ltb len LONG_VALUE short) (omega (arith, short))
      | inr long ↦ rw (le-ltb len LONG_VALUE long) (omega arith)
    ]

slots_few : (len : ℕ) → slots_of len ≤ 1
slots_few len =
    elim (cases_lt len LONG_VALUE) [
      | inl short ↦ rw (lt-ltb len LONG_VALUE short) (omega arith)
      | inr long ↦ rw (le-ltb len LONG_VALUE long) (omega arith)
    ]

-- The items cost more than the cells and slots that their values take.
record AreCovered (contents : Contents) (es : List StoredEntry) : Type 0 where
  cells : sum_by (λ (value : KeptValue). cells_of value.0.len) (map (kept_value contents) es) * 60
      ≤ listed_cost (shown_entries contents es)
  long : sum_by (λ (value : KeptValue). slots_of value.0.len) (map (kept_value contents) es) * 8192
      ≤ listed_cost (shown_entries contents es)

covered : (contents : Contents) (es : List StoredEntry)
    → AllByRecursion (IsSpelled contents.slots) (map (kept_value contents) es) → AreCovered contents es
covered contents [] spelled = record { cells = omega arith; long = omega arith }
covered contents (e ∷ es) spelled =
    let rest = covered contents es spelled.1 in
    let len : length (value_at contents (place_in e.1)) ≡ (place_in e.1).len = spelled.0.len in
    let values = map (kept_value contents) es in
    let cost = sum_by-cons entry_cost (shown_entry contents e) (shown_entries contents es) in
    record {
      cells = omega (
        arith,
        sum_by-cons (λ (value : KeptValue). cells_of value.0.len) (kept_value contents e) values,
        cost,
        rest.cells,
        len,
        cells_cost (place_in e.1).len,
      );
      long = omega (
        arith,
        sum_by-cons (λ (value : KeptValue). slots_of value.0.len) (kept_value contents e) values,
        cost,
        rest.long,
        len,
        slots_cost (place_in e.1).len,
      );
    }

-- There is room for a value more, whatever its length is.
pub room_for_one : (contents : Contents) (budget : ℕ) (es : List StoredEntry) (len : ℕ) → AreCached es contents budget
    → listed_cost (shown_entries contents es) ≤ budget → HasRoom contents (cells_of len) (slots_of len)
room_for_one contents budget es len cached fits =
    let cover = covered contents es cached.kept.cells.spelled in
    record {
      cells = omega (
        arith,
        cover.cells,
        fits,
        cached.kept.cells.counted,
        cached.kept.few.least,
        cached.room.cells,
        cells_few len,
      );
      long = omega (arith, cover.long, fits, cached.kept.long.counted, cached.room.long, slots_few len);
      few_cells = cached.room.few_cells;
      few_long = cached.room.few_long;
    }
