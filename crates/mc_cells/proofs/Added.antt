-- A cell more before a chain.
use Rattle.std.proofs.Common.{◌≡◌, ℕ, suc, ◌+◌, ◌<◌, ◌≤◌, cond, eqb, inl, inr, List, ◌∷◌, length}
use Rattle.std.proofs.Common.{◌++◌, take, Option, Some, None, refl, sym, ap, ◌∙◌, arith}
use Rattle.std.proofs.Common.{eq-eqb, ne_eqb, rules, length-append, length-take-le}
use lib.Seq.{take-append-add}
use Rattle.std.specs.Prelude.{slice_index_or}
use Rattle.std.proofs.lemmas.Bool.{cases_eq}
use Rattle.std.proofs.lemmas.List.Sums.{sum_by-cons}
use Rattle.slab.specs.Slab.{Slab, get, slab_len, Updates}
use Rattle.mc_cells.specs.declared.TheConstants.{LONG_VALUE}
use Rattle.mc_cells.specs.declared.cell.Cell.{Cell}
use Rattle.mc_cells.specs.Pool.{IsAdded}
use Rattle.mc_cells.specs.Chain.{Slots, passes, chain_bytes}
use Rattle.mc_cells.specs.Kept.{KeptValue, place_at, used, cells_of, all_passes, CellsHold, IsBeside}
use Rattle.mc_cells.proofs.Chains.{kept_unchanged, chain_unchanged, all_passes-cons, short_cells}
use Rattle.mc_cells.proofs.Chains.{piece_more, piece_alone}

-- an insert adds a value
pub inserted : {T : Type 0} (old new : Slab T) (number : ℕ) (value : T) → get old number ≡ None
    → Updates old new number (Some value) → slab_len new ≡ slab_len old + 1 → IsAdded old.slots new.slots number value
inserted old new number value vacant updates counted =
    record { vacant = vacant; here = updates.changed; others = updates.others; counted = counted }

-- what a removal takes away, its slab had more than the new one
pub removed : {T : Type 0} (old new : Slab T) (number : ℕ) (value : T) → get old number ≡ Some value
    → Updates old new number None → slab_len new + 1 ≡ slab_len old → IsAdded new.slots old.slots number value
removed old new number value here updates counted =
    record {
      vacant = updates.changed;
      here = here;
      others = λ other apart. sym (updates.others other apart);
      counted = sym counted;
    }

-- The chain with the added cell before it has that cell's bytes, and the bytes that it had.
pub record IsBefore (old new : Slots) (number count at : ℕ) (bytes : List ℕ) (kept : List KeptValue) : Type 0 where
  pub beside : IsBeside new (suc count) number kept
  pub bytes_are : chain_bytes new (suc count) number ≡ bytes ++ chain_bytes old count at

-- the added slot is in use once more, and the others as often
pub used_added : {T : Type 0} (old new : List (Option T)) (number : ℕ) (value : T) → IsAdded old new number value
    → (other : ℕ) →
    cond (eqb number other) 1 0 + used (slice_index_or old other None) ≡ used (slice_index_or new other None)
used_added old new number value added other =
    elim (cases_eq number other) [
      | inl same ↦ rw (← same, eq-eqb number number refl, added.vacant, added.here) refl
      | inr apart ↦ rw (ne_eqb number other apart, added.others other (λ e. apart (sym e))) (omega arith)
    ]

-- the added cell before a chain
pub cell_before : (old new : Slots) (number : ℕ) (cell : Cell) (count : ℕ) (kept : List KeptValue)
    → IsAdded old new number cell → IsBeside old count cell.next kept
    → IsBefore old new number count cell.next cell.bytes kept
cell_before old new number cell count kept added beside =
    let next = cell.next in
    let free : passes old number count next + all_passes old number kept ≡ 0
    = beside.once number ∙ ap used added.vacant in
    let chain = chain_unchanged old new number count next added.others (omega (arith, free)) in
    let others = kept_unchanged old new number kept added.others (omega (arith, free)) in
    record {
      beside = record {
        chain = rw added.here (refl, chain.passed number ∙ omega (arith, free), chain.chain beside.chain);
        spelled = others.spelled beside.spelled;
        once = λ other. rw added.here (omega (
          arith,
          chain.passed other,
          others.passed other,
          beside.once other,
          used_added old new number cell added other,
        ));
        counted = omega (arith, added.counted, beside.counted);
      };
      bytes_are = rw added.here (ap (λ xs. cell.bytes ++ xs) chain.bytes);
    }

-- a chain and other values, as values
pub beside_from_kept : (slots : Slots) (first len : ℕ) (text : List ℕ) (kept : List KeptValue)
    → CellsHold slots ((place_at first len, text) ∷ kept) → IsBeside slots (cells_of len) first kept
beside_from_kept slots first len text kept hold =
    let value : KeptValue = (place_at first len, text) in
    record {
      chain = hold.spelled.0.chain;
      spelled = hold.spelled.1;
      once = λ number. sym (all_passes-cons slots number value kept) ∙ hold.once number;
      counted = hold.counted ∙ sum_by-cons (λ (value : KeptValue). cells_of value.0.len) value kept;
    }

-- a chain beside other values is a value, if it has that value's bytes
pub kept_from_beside : (slots : Slots) (first len : ℕ) (text : List ℕ) (kept : List KeptValue)
    → IsBeside slots (cells_of len) first kept → length text ≡ len
    → (len < LONG_VALUE → take len (chain_bytes slots (cells_of len) first) ≡ text)
    → CellsHold slots ((place_at first len, text) ∷ kept)
kept_from_beside slots first len text kept beside count bytes =
    let value : KeptValue = (place_at first len, text) in
    record {
      spelled = (record { len = count; chain = beside.chain; bytes = bytes }, beside.spelled);
      once = λ number. all_passes-cons slots number value kept ∙ beside.once number;
      counted = beside.counted ∙ sym (sum_by-cons (λ (value : KeptValue). cells_of value.0.len) value kept);
    }

-- no chain beside the values
pub beside_none : (slots : Slots) (at : ℕ) (kept : List KeptValue) → CellsHold slots kept → IsBeside slots 0 at kept
beside_none slots at kept hold =
    record {
      chain = tt {0};
      spelled = hold.spelled;
      once = λ number. omega (arith, hold.once number);
      counted = omega (arith, hold.counted);
    }

-- values beside which there is no chain
pub kept_alone : (slots : Slots) (at : ℕ) (kept : List KeptValue) → IsBeside slots 0 at kept → CellsHold slots kept
kept_alone slots at kept beside =
    record {
      spelled = beside.spelled;
      once = λ number. omega (arith, beside.once number);
      counted = omega (arith, beside.counted);
    }

take_both : (xs ys : List ℕ) (n m : ℕ) → m ≡ length xs + n → take m (xs ++ ys) ≡ xs ++ take n ys
take_both xs ys n m sum = rw sum (take-append-add xs ys n)

-- A whole piece is put before a value.
pub piece_before : (old new : Slots) (number : ℕ) (cell : Cell) (text : List ℕ) (kept : List KeptValue)
    → IsAdded old new number cell → length cell.bytes ≡ 60 → length text + 60 < LONG_VALUE
    → CellsHold old ((place_at cell.next (length text), text) ∷ kept)
    → CellsHold new ((place_at number (length text + 60), cell.bytes ++ text) ∷ kept)
piece_before old new number cell text kept added whole short hold =
    let n = length text in
    let more : cells_of (n + 60) ≡ suc (cells_of n)
    = short_cells (n + 60) short ∙ piece_more n ∙ ap suc (sym (short_cells n (omega (arith, short)))) in
    let beside = beside_from_kept old cell.next n text kept hold in
    let before = cell_before old new number cell (cells_of n) kept added beside in
    let behind = chain_bytes old (cells_of n) cell.next in
    let bytes = hold.spelled.0.bytes (omega (arith, short)) in
    let front = take_both cell.bytes behind n (n + 60) (omega (arith, whole)) in
    kept_from_beside new number (n + 60) (cell.bytes ++ text) kept (rw more before.beside)
    (omega (arith, length-append cell.bytes text, whole))
    (λ _. rw (more, before.bytes_are) (front ∙ ap (λ xs. cell.bytes ++ xs) bytes))

-- The last piece of a value is kept.
pub last_piece : (old new : Slots) (number : ℕ) (cell : Cell) (len : ℕ) (kept : List KeptValue)
    → IsAdded old new number cell → len ≤ length cell.bytes → 0 < len → len ≤ 60 → CellsHold old kept
    → CellsHold new ((place_at number len, take len cell.bytes) ∷ kept)
last_piece old new number cell len kept added whole some one hold =
    let count : cells_of len ≡ 1 = short_cells len (omega (arith, one)) ∙ piece_alone len some one in
    let before = cell_before old new number cell 0 kept added (beside_none old cell.next kept hold) in
    kept_from_beside new number len (take len cell.bytes) kept (rw count before.beside)
    (length-take-le len cell.bytes whole)
    (λ _. rw (count, before.bytes_are) (ap (λ xs. take len xs) (search rules)))
