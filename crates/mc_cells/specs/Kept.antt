-- Which values cells and slots hold.
use Rattle.std.specs.Prelude.{ℕ, ◌≡◌, ◌+◌, ◌<◌, ◌≤◌, List, length, take, Option, Some, None, is_some, count_by}
use Rattle.std.specs.Prelude.{if◌then◌else◌, ◌==◌, nat_lt, slice_index_or}
use Rattle.std.specs.List.{sum_by, AllByRecursion}
use Rattle.mc_cells.specs.declared.place.Place.{Place}
use Rattle.mc_cells.specs.declared.TheConstants.{LONG_VALUE}
use Rattle.mc_cells.specs.Chain.{Slots, cell_at, pieces, passes, IsChain, chain_bytes}

-- a place, and the value that is kept there
abbrev pub KeptValue : Type 0
KeptValue = Place × List ℕ

-- the place of a value of this length
abbrev pub place_at : ℕ → ℕ → Place
place_at first len = record { first = first; len = len }

-- 1 for something, 0 for nothing
abbrev pub used : {T : Type 0} → Option T → ℕ
used slot = if is_some slot then 1 else 0

-- how many cells a value of this length takes: a long one takes none
abbrev pub cells_of : ℕ → ℕ
cells_of len = if nat_lt len LONG_VALUE then pieces len else 0

-- the chain of the place has these bytes
pub record IsSpelled (slots : Slots) (kept : KeptValue) : Type 0 where
  pub len : length kept.1 ≡ kept.0.len
  pub chain : IsChain slots (cells_of kept.0.len) kept.0.first
  pub bytes : kept.0.len < LONG_VALUE →
      take kept.0.len (chain_bytes slots (cells_of kept.0.len) kept.0.first) ≡ kept.1

-- how often the chains of these values pass the cell with a number
abbrev pub all_passes : Slots → ℕ → List KeptValue → ℕ
all_passes slots number kept =
    sum_by (λ (value : KeptValue). passes slots number (cells_of value.0.len) value.0.first) kept

-- The cells hold the short ones of these values, and nothing else: each cell that is in use is a piece of exactly one
-- of them.
pub record CellsHold (slots : Slots) (kept : List KeptValue) : Type 0 where
  pub spelled : AllByRecursion (IsSpelled slots) kept
  pub once : (number : ℕ) → all_passes slots number kept ≡ used (cell_at slots number)
  pub counted : count_by is_some slots ≡ sum_by (λ (value : KeptValue). cells_of value.0.len) kept

-- As CellsHold, beside one more chain, of count cells.
pub record IsBeside (slots : Slots) (count at : ℕ) (kept : List KeptValue) : Type 0 where
  pub chain : IsChain slots count at
  pub spelled : AllByRecursion (IsSpelled slots) kept
  pub once : (number : ℕ) → passes slots number count at + all_passes slots number kept ≡ used (cell_at slots number)
  pub counted : count_by is_some slots ≡ count + sum_by (λ (value : KeptValue). cells_of value.0.len) kept

-- the slots of the long values, by their numbers
abbrev pub LongSlots : Type 0
LongSlots = List (Option (List ℕ))

-- how many slots of long values a value of this length takes
abbrev pub slots_of : ℕ → ℕ
slots_of len = if nat_lt len LONG_VALUE then 0 else 1

-- whether a value has the slot with a number
abbrev pub takes : ℕ → KeptValue → ℕ
takes number value = if nat_lt value.0.len LONG_VALUE then 0 else (if value.0.first == number then 1 else 0)

-- The slots hold the long ones of these values, each its own, and nothing else.
pub record SlotsHold (long : LongSlots) (kept : List KeptValue) : Type 0 where
  pub whole : AllByRecursion (λ (value : KeptValue).
      LONG_VALUE ≤ value.0.len → slice_index_or long value.0.first None ≡ Some value.1) kept
  pub once : (number : ℕ) → sum_by (takes number) kept ≡ used (slice_index_or long number None)
  pub counted : count_by is_some long ≡ sum_by (λ (value : KeptValue). slots_of value.0.len) kept
