-- The pieces in cells, of which some are split into halves.
use Rattle.std.specs.Prelude.{ℕ, ◌≡◌, ◌+◌, ◌-◌, ◌*◌, ◌/◌, ◌%◌, ◌≤◌, Bool, false, List, [], ◌∷◌, take, drop}
use Rattle.std.specs.Prelude.{Option, Some, None, is_some, count_by, if◌then◌else◌, ◌==◌, nat_lt}
use Rattle.std.specs.List.{slice_get}
use Rattle.mc_cells.specs.declared.cell.Cell.{Cell}
use Rattle.mc_cells.specs.declared.TheConstants.{SPLIT}
use Rattle.mc_cells.specs.Chain.{Slots, cell_at, cell_of, next_in}
use Rattle.mc_cells.specs.Pool.{IsAdded}

-- whether it is this number
abbrev pub is_number : ℕ → Option ℕ → Bool
is_number number None = false
is_number number (Some other) = other == number

-- the bytes of a half
abbrev pub half_of : ℕ → List ℕ → List ℕ
half_of number bytes = take 30 (drop (number % 2 * 30) bytes)

-- The piece with a number, in this cell: the whole cell, or a half of a split one. A half is vacant if it is where the
-- cell's link says.
abbrev pub piece_in : List ℕ → ℕ → Option Cell → Option Cell
piece_in halves number None = None
piece_in halves number (Some cell) =
    if nat_lt cell.next SPLIT then (if number % 2 == 0 then Some cell else None)
    else (
    if is_number number (slice_get halves (cell.next - SPLIT)) then None
    else Some (cell_of 0 (half_of number cell.bytes))
    )

-- the pieces in cells, of which the first half of the first has this number
abbrev pub pieces_from : List ℕ → ℕ → Slots → Slots
pieces_from halves number [] = []
pieces_from halves number (slot ∷ slots) =
    piece_in halves number slot ∷ piece_in halves (number + 1) slot ∷ pieces_from halves (number + 2) slots

-- all pieces in cells
abbrev pub pieces_in : List ℕ → Slots → Slots
pieces_in halves slots = pieces_from halves 0 slots

-- The vacant halves are where the links of their cells say.
abbrev pub AreLinked : List ℕ → Slots → Type 0
AreLinked halves slots =
    (at number : ℕ) → slice_get halves at ≡ Some number → next_in (cell_at slots (number / 2)) ≡ SPLIT + at

-- the number of the other half of a cell
abbrev pub half_beside : ℕ → ℕ
half_beside number = if number % 2 == 0 then number + 1 else number - 1

pub record Pieces : Type 0 where
  -- the pieces in use, by their numbers
  pub slots : Slots
  -- how many cells are in use
  pub used : ℕ
  -- how many cells there is memory for
  pub capacity : ℕ

-- there is memory for more cells, this many
abbrev pub HasRoomIn : Pieces → ℕ → Type 0
HasRoomIn pieces more = pieces.used + more ≤ pieces.capacity

-- each cell in use has a piece or two
pub record ArePieces (used : ℕ) (slots : Slots) : Type 0 where
  pub least : used ≤ count_by is_some slots
  pub most : count_by is_some slots ≤ 2 * used

-- A half is put in use. The vacant halves and the cells are others then.
pub record IsHalfAdded (old_halves : List ℕ) (old : Slots) (new_halves : List ℕ) (new : Slots) (number : ℕ)
    (piece : Cell) : Type 0 where
  pub added : IsAdded (pieces_in old_halves old) (pieces_in new_halves new) number piece
  pub linked : AreLinked new_halves new

-- A half is made vacant.
pub record IsHalfRemoved (old_halves : List ℕ) (old : Slots) (new_halves : List ℕ) (new : Slots) (number : ℕ)
    : Type 0 where
  pub removed : (piece : Cell) → cell_at (pieces_in old_halves old) number ≡ Some piece
      → IsAdded (pieces_in new_halves new) (pieces_in old_halves old) number piece
  pub linked : AreLinked new_halves new
