-- The cells of a shard: which are in use, and how many there is memory for.
use Rattle.std.specs.Prelude.{ℕ, zero, suc, ◌≡◌, ◌≢◌, ◌+◌, ◌≤◌, List, Option, Some, None, is_some, count_by}
use Rattle.std.specs.Prelude.{slice_index_or, slice_set}
use Rattle.mc_cells.specs.declared.cell.Cell.{Cell}
use Rattle.mc_cells.specs.Chain.{Slots, cell_at, next_in}

pub record Pool : Type 0 where
  -- the cells in use, by their numbers
  pub slots : Slots
  -- how many cells there is memory for
  pub capacity : ℕ

-- there is memory for more cells, this many
abbrev pub HasRoomFor : Pool → ℕ → Type 0
HasRoomFor pool more = count_by is_some pool.slots + more ≤ pool.capacity

-- all cells but those of a chain of count cells: the chain of the vacant ones
abbrev pub vacate : Slots → ℕ → ℕ → Slots
vacate all zero at = all
vacate all (suc count) at = slice_set (vacate all count (next_in (cell_at all at))) at None

-- a slot that was vacant is in use
pub record IsAdded {T : Type 0} (old new : List (Option T)) (number : ℕ) (value : T) : Type 0 where
  pub vacant : slice_index_or old number None ≡ None
  pub here : slice_index_or new number None ≡ Some value
  pub others : (other : ℕ) → other ≢ number → slice_index_or new other None ≡ slice_index_or old other None
  pub counted : count_by is_some new ≡ count_by is_some old + 1

-- a cell that was in use, before the one with the number next, is vacant
pub record IsRemoved (old new : Slots) (number next : ℕ) : Type 0 where
  pub cell : Cell
  pub next_is : cell.next ≡ next
  pub removed : IsAdded new old number cell
