-- What the cells of a shard contain, and which values they hold.
use Rattle.std.specs.Prelude.{ℕ, ◌+◌, ◌<◌, ◌≤◌, ◌^◌, List, []}
use Rattle.std.specs.Prelude.{length, take, Option, Some, None, is_some, IsSome, count_by}
use Rattle.std.specs.Prelude.{if◌then◌else◌, nat_lt, slice_index_or}
use Rattle.mc_cells.specs.declared.place.Place.{Place}
use Rattle.mc_cells.specs.declared.TheConstants.{LONG_VALUE, MAX_CELLS}
use Rattle.mc_cells.specs.Chain.{Slots, IsChain, chain_bytes}
use Rattle.mc_cells.specs.Halves.{ArePieces}
use Rattle.mc_cells.specs.Kept.{KeptValue, LongSlots, CellsHold, SlotsHold, cells_of}

pub record Contents : Type 0 where
  -- the pieces of short values, by their numbers
  pub slots : Slots
  -- how many cells are in use
  pub used : ℕ
  -- how many cells there is memory for
  pub cell_room : ℕ
  -- the long values, by their numbers
  pub long : LongSlots
  -- how many long values there is memory for
  pub long_room : ℕ

-- These values are kept, each at its own place, and no piece is in use for anything else. Their order does not matter.
pub record AreKept (contents : Contents) (kept : List KeptValue) : Type 0 where
  pub cells : CellsHold contents.slots kept
  pub few : ArePieces contents.used contents.slots
  pub long : SlotsHold contents.long kept

abbrev pub value_in : Option (List ℕ) → List ℕ
value_in None = []
value_in (Some value) = value

-- the bytes at a place
abbrev pub value_at : Contents → Place → List ℕ
value_at contents place =
    if nat_lt place.len LONG_VALUE
    then take place.len (chain_bytes contents.slots (cells_of place.len) place.first)
    else value_in (slice_index_or contents.long place.first None)

-- there is a value at the place: its cells are in use, or the slot of a long one
pub record HasValue (contents : Contents) (place : Place) : Type 0 where
  pub chain : IsChain contents.slots (cells_of place.len) place.first
  pub whole : place.len < LONG_VALUE → place.len ≤ length (chain_bytes contents.slots (cells_of place.len) place.first)
  pub long : LONG_VALUE ≤ place.len → IsSome (slice_index_or contents.long place.first None)

-- there is memory for these numbers of further cells and long values, and the numbers of all fit a place
pub record HasRoom (contents : Contents) (more_cells more_long : ℕ) : Type 0 where
  pub cells : contents.used + more_cells ≤ contents.cell_room
  pub long : count_by is_some contents.long + more_long ≤ contents.long_room
  pub few_cells : contents.cell_room ≤ MAX_CELLS
  pub few_long : contents.long_room ≤ 2 ^ 25

-- nothing but the memory that there is for more
abbrev pub with_room : Contents → Contents → Contents
with_room contents other = record contents { cell_room = other.cell_room; long_room = other.long_room }
