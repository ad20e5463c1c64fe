-- A map that grows in parts: while it does it is two, and its entries are those of both.
use Rattle.std.specs.Prelude.{ℕ, ◌≡◌, Bool, List, ◌++◌, None}
use Rattle.std.specs.List.{AllByRecursion}
use Rattle.std.specs.Map.{lookup, set_value}
use Rattle.lru.specs.LruCache.{LruCache, lru_cache, promoted}
use Rattle.mc_wire.specs.SameKey.{same_key}
use Rattle.mc_store.specs.declared.stored.Stored.{Stored}
use Rattle.mc_store.specs.internal.Cached.{StoredEntry}

abbrev pub ItemEntries : Type 0
ItemEntries = LruCache (List ℕ) Stored

-- The two maps.
pub record GrowingEntries : Type 0 where
  -- the items that were used most recently
  pub recent : ItemEntries
  -- the others
  pub older : ItemEntries
  -- how many there may be in both
  pub cap : ℕ

-- the entries of both, the most recently used first
abbrev pub entries_of : GrowingEntries → List StoredEntry
entries_of map = map.recent.entries ++ map.older.entries

-- No key of the older entries is among the recent ones.
abbrev pub AreApart : List StoredEntry → List StoredEntry → Type 0
AreApart recent older = AllByRecursion (λ (entry : StoredEntry). lookup (same_key entry.0) recent ≡ None) older

-- the map, whose recent entry under a key was made the first and has this value
abbrev pub with_used : (List ℕ → Bool) → GrowingEntries → Stored → GrowingEntries
with_used test map stored =
    record map { recent = lru_cache (set_value test (promoted test map.recent.entries) stored) map.recent.cap }
