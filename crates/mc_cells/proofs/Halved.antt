-- The pieces in cells.
use Rattle.std.proofs.Common.{◌≡◌, ◌≢◌, ℕ, zero, suc, ◌+◌, ◌-◌, ◌*◌, ◌/◌}
use Rattle.std.proofs.Common.{◌%◌, ◌<◌, ◌≤◌, false, cond, eqb, inl, inr, List}
use Rattle.std.proofs.Common.{[], ◌∷◌, Option, Some, None, is_some, count_by, refl, sym, ap, ◌∙◌, arith}
use Rattle.std.proofs.Common.{ne_eqb}
use Rattle.std.proofs.lemmas.Bool.{cases_eq, cases_lt, lt-ltb, le-ltb}
use Rattle.std.specs.List.{slice_get}
use Rattle.mc_cells.specs.declared.TheConstants.{SPLIT}
use Rattle.mc_cells.specs.declared.cell.Cell.{Cell}
use Rattle.mc_cells.specs.Chain.{Slots, cell_at, cell_of}
use Rattle.mc_cells.specs.Pool.{IsAdded}
use Rattle.mc_cells.specs.Kept.{used}
use Rattle.mc_cells.specs.Halves.{is_number, half_of, piece_in, pieces_from, pieces_in, AreLinked, ArePieces}
use Rattle.mc_cells.proofs.Counted.{one_more, count_cons, used_once}

from_at : (halves : List ℕ) (base : ℕ) (slots : Slots) (n : ℕ)
    → cell_at (pieces_from halves base slots) n ≡ piece_in halves (base + n) (cell_at slots (n / 2))
from_at halves base [] n = refl
from_at halves base (slot ∷ slots) zero =
    let sum : base ≡ base + 0 = omega arith in
    ap (λ k. piece_in halves k slot) sum
from_at halves base (slot ∷ slots) (suc zero) = refl
from_at halves base (slot ∷ slots) (suc (suc n)) =
    let half : suc (suc n) / 2 ≡ suc (n / 2) = omega arith in
    let sum : base + suc (suc n) ≡ base + 2 + n = omega arith in
    rw (half, sum) (from_at halves (base + 2) slots n)

-- the piece with a number is in the cell with half of it
pub piece_at : (halves : List ℕ) (slots : Slots) (n : ℕ)
    → cell_at (pieces_in halves slots) n ≡ piece_in halves n (cell_at slots (n / 2))
piece_at halves slots n =
    let sum : 0 + n ≡ n = omega arith in
    from_at halves 0 slots n ∙ ap (λ k. piece_in halves k (cell_at slots (n / 2))) sum

-- one piece more
pub pieces_added : (old_halves : List ℕ) (old : Slots) (new_halves : List ℕ) (new : Slots) (number : ℕ) (piece : Cell)
    → piece_in old_halves number (cell_at old (number / 2)) ≡ None
    → piece_in new_halves number (cell_at new (number / 2)) ≡ Some piece
    → ((other : ℕ) → other ≢ number
    → piece_in new_halves other (cell_at new (other / 2)) ≡ piece_in old_halves other (cell_at old (other / 2)))
    → IsAdded (pieces_in old_halves old) (pieces_in new_halves new) number piece
pieces_added old_halves old new_halves new number piece vacant here others =
    let before = piece_at old_halves old number ∙ vacant in
    let after = piece_at new_halves new number ∙ here in
    let same = λ (other : ℕ) (apart : other ≢ number).
    piece_at new_halves new other ∙ others other apart ∙ sym (piece_at old_halves old other) in
    record {
      vacant = before;
      here = after;
      others = same;
      counted = one_more (pieces_in old_halves old) (pieces_in new_halves new) number piece before after same;
    }

-- one half or both of a split cell are in use
one_used : (number : ℕ) (first second : Cell) (vacant : Option ℕ)
    → 1 ≤ used (cond (is_number number vacant) None (Some first))
    + used (cond (is_number (number + 1) vacant) None (Some second))
one_used number first second None = omega arith
one_used number first second (Some other) =
    elim (cases_eq other number) [
      | inl same ↦
          let test : eqb other (number + 1) ≡ false
          = ne_eqb other (number + 1) (λ e. absurd (omega (arith, e, same))) in
          rw test (omega arith)
      | inr apart ↦ rw (ne_eqb other number apart) (omega arith)
    ]

record AreOneOrTwo (halves : List ℕ) (number : ℕ) (slot : Option Cell) : Type 0 where
  least : used slot ≤ used (piece_in halves number slot) + used (piece_in halves (number + 1) slot)
  most : used (piece_in halves number slot) + used (piece_in halves (number + 1) slot) ≤ 2 * used slot

one_or_two : (halves : List ℕ) (number : ℕ) (slot : Option Cell) → number % 2 ≡ 0 → AreOneOrTwo halves number slot
one_or_two halves number None even = record { least = omega arith; most = omega arith }
one_or_two halves number (Some cell) even =
    let first = piece_in halves number (Some cell) in
    let second = piece_in halves (number + 1) (Some cell) in
    record {
      least = elim (cases_lt cell.next SPLIT) [
        | inl whole ↦
            rw (lt-ltb cell.next SPLIT whole, even) (omega arith)
        | inr split ↦
            rw (le-ltb cell.next SPLIT split)
            (one_used number (cell_of 0 (half_of number cell.bytes)) (cell_of 0 (half_of (number + 1) cell.bytes))
            (slice_get halves (cell.next - SPLIT)))
      ];
      most = omega (arith, used_once first, used_once second);
    }

counted : (halves : List ℕ) (number : ℕ) (slots : Slots) → number % 2 ≡ 0
    → ArePieces (count_by is_some slots) (pieces_from halves number slots)
counted halves number [] even = record { least = omega arith; most = omega arith }
counted halves number (slot ∷ slots) even =
    let pair = one_or_two halves number slot even in
    let rest = counted halves (number + 2) slots (omega (arith, even)) in
    let first = piece_in halves number slot in
    let second = piece_in halves (number + 1) slot in
    let all = count_cons slot slots in
    let one = count_cons first (second ∷ pieces_from halves (number + 2) slots) in
    let two = count_cons second (pieces_from halves (number + 2) slots) in
    record {
      least = omega (arith, pair.least, rest.least, all, one, two);
      most = omega (arith, pair.most, rest.most, all, one, two);
    }

-- each cell in use has a piece or two
pub pieces_counted : (halves : List ℕ) (slots : Slots) → ArePieces (count_by is_some slots) (pieces_in halves slots)
pieces_counted halves slots = counted halves 0 slots refl

-- the pieces where the cell that is put in use is whole
pub whole_added : (halves : List ℕ) (old new : Slots) (number : ℕ) (cell : Cell) → cell.next < SPLIT
    → IsAdded old new number cell → IsAdded (pieces_in halves old) (pieces_in halves new) (number * 2) cell
whole_added halves old new number cell whole added =
    let half : number * 2 / 2 ≡ number = omega arith in
    let even : number * 2 % 2 ≡ 0 = omega arith in
    let test = lt-ltb cell.next SPLIT whole in
    pieces_added halves old halves new (number * 2) cell
    (rw (half, added.vacant) refl)
    (rw (half, added.here, test, even) refl)
    (λ other apart. elim (cases_eq (other / 2) number) [
      | inl same ↦
          let odd : eqb (other % 2) 0 ≡ false = ne_eqb (other % 2) 0 (λ e. apart (omega (arith, e, same))) in
          rw (same, added.vacant, added.here, test, odd) refl
      | inr differ ↦ rw (added.others (other / 2) differ) refl
    ])

-- the links where another cell is put in use
pub linked_added : (halves : List ℕ) (old new : Slots) (number : ℕ) (cell : Cell) → IsAdded old new number cell
    → AreLinked halves old → AreLinked halves new
linked_added halves old new number cell added linked =
    λ at half here.
    let link = linked at half here in
    rw (added.others (half / 2) (λ same. absurd (omega (arith, rw (same, added.vacant) at link)))) link

-- the links where a whole cell is made vacant
pub linked_removed : (halves : List ℕ) (old new : Slots) (number : ℕ) (cell : Cell) → cell.next < SPLIT
    → IsAdded new old number cell → AreLinked halves old → AreLinked halves new
linked_removed halves old new number cell whole removed linked =
    λ at half here.
    let link = linked at half here in
    rw (← removed.others (half / 2) (λ same. absurd (omega (arith, whole, rw (same, removed.here) at link)))) link

-- a cell's pieces are the same where the vacant halves are
pub piece_same : (old new : List ℕ) (number : ℕ) (slot : Option Cell)
    → ((at : ℕ) → is_number number (slice_get new at) ≡ is_number number (slice_get old at))
    → piece_in new number slot ≡ piece_in old number slot
piece_same old new number None same = refl
piece_same old new number (Some cell) same = rw (same (cell.next - SPLIT)) refl
