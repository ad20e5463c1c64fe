-- The items of a shard as a list, and how they are kept.
use Rattle.std.specs.Prelude.{ℕ, ◌+◌, ◌/◌, ◌≤◌, ◌^◌, List, map}
use Rattle.std.specs.List.{AllByRecursion}
use Rattle.mc_cells.specs.Contents.{Contents, AreKept, value_at}
use Rattle.mc_cells.specs.Kept.{KeptValue}
use Rattle.mc_cells.specs.declared.TheConstants.{CELL_BYTES, LONG_VALUE, MAX_CELLS}
use Rattle.mc_wire.specs.declared.TheConstants.{MAX_VALUE_LIMIT}
use Rattle.mc_store.specs.declared.stored.Stored.{Stored}
use Rattle.mc_store.specs.internal.Listed.{ListedItem}
use Rattle.mc_store.specs.internal.Stored.{place_in, shown}

-- The items of a shard as its map contains them.
pub record CachedItems : Type 0 where
  -- each item with its key, the most recently used first
  pub entries : List ListedItem
  -- how many there may be
  pub cap : ℕ
  -- what they may cost together, in bytes
  pub budget : ℕ

-- what the map keeps under a key
abbrev pub StoredEntry : Type 0
StoredEntry = List ℕ × Stored

-- an item with its key, where these are the values
abbrev pub shown_entry : Contents → StoredEntry → ListedItem
shown_entry contents entry = (entry.0, shown contents entry.1)

-- the items, where these are the values
abbrev pub shown_entries : Contents → List StoredEntry → List ListedItem
shown_entries contents entries = map (shown_entry contents) entries

-- an item's place and the value there
abbrev pub kept_value : Contents → StoredEntry → KeptValue
kept_value contents entry = (place_in entry.1, value_at contents (place_in entry.1))

-- There is memory for the values of all items that fit the budget, and for one more.
pub record HasRoomForAll (contents : Contents) (budget : ℕ) : Type 0 where
  pub cells : budget / CELL_BYTES + LONG_VALUE / CELL_BYTES + 2 ≤ contents.cell_room
  pub long : budget / LONG_VALUE + 1 ≤ contents.long_room
  pub few_cells : contents.cell_room ≤ MAX_CELLS
  pub few_long : contents.long_room ≤ 2 ^ 25

-- The value is no longer than a client's may be.
abbrev pub IsSmall : KeptValue → Type 0
IsSmall value = value.0.len ≤ MAX_VALUE_LIMIT

-- Each of the values is.
abbrev pub AreSmall : List KeptValue → Type 0
AreSmall kept = AllByRecursion IsSmall kept

-- The value of each item is kept, and nothing else is.
pub record AreCached (entries : List StoredEntry) (contents : Contents) (budget : ℕ) : Type 0 where
  pub kept : AreKept contents (map (kept_value contents) entries)
  pub small : AreSmall (map (kept_value contents) entries)
  pub room : HasRoomForAll contents budget
