-- Chains of cells: each cell has a piece of a value, and the number of the next cell.
use Rattle.std.specs.Prelude.{ℕ, zero, suc, ◌≡◌, ◌+◌, ◌/◌, List, [], ◌++◌, Option, Some, None, IsSome, slice_index_or}
use Rattle.std.specs.Prelude.{if◌then◌else◌, ◌==◌}
use Rattle.mc_cells.specs.declared.cell.Cell.{Cell}

-- the cells in use, by their numbers
abbrev pub Slots : Type 0
Slots = List (Option Cell)

-- the cell with a number
abbrev pub cell_at : Slots → ℕ → Option Cell
cell_at slots number = slice_index_or slots number None

-- the cell of a piece, before the cell with the number next
abbrev pub cell_of : ℕ → List ℕ → Cell
cell_of next bytes = record { next = next; bytes = bytes }

-- the number of the next cell
abbrev pub next_in : Option Cell → ℕ
next_in None = 0
next_in (Some cell) = cell.next

abbrev pub bytes_in : Option Cell → List ℕ
bytes_in None = []
bytes_in (Some cell) = cell.bytes

-- how many cells a short value of this many bytes takes
abbrev pub pieces : ℕ → ℕ
pieces len = (len + 59) / 60

-- how often a chain of count cells passes the cell with a number
abbrev pub passes : Slots → ℕ → ℕ → ℕ → ℕ
passes slots number zero at = 0
passes slots number (suc count) at =
    (if at == number then 1 else 0) + passes slots number count (next_in (cell_at slots at))

-- a chain of count cells, all of them in use, which passes none twice
abbrev pub IsChain : Slots → ℕ → ℕ → Type 0
IsChain slots zero at = Unit {0}
IsChain slots (suc count) at =
    IsSome (cell_at slots at) × (passes slots at count (next_in (cell_at slots at)) ≡ 0)
    × IsChain slots count (next_in (cell_at slots at))

-- the bytes of a chain's cells, in order
abbrev pub chain_bytes : Slots → ℕ → ℕ → List ℕ
chain_bytes slots zero at = []
chain_bytes slots (suc count) at =
    bytes_in (cell_at slots at) ++ chain_bytes slots count (next_in (cell_at slots at))
