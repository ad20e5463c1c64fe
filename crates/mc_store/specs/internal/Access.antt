-- What a reading command makes of the item that it meets, and of a shard's items.
use Rattle.std.specs.Prelude.{ℕ, Bool, true, ◌||◌, List, Option, Some, None}
use Rattle.std.specs.Map.{lookup, remove_entry, set_value}
use Rattle.lru.specs.LruCache.{promoted}
use Rattle.mc_wire.specs.SameKey.{same_key}
use Rattle.mc_item.specs.declared.item.Item.{Item}
use Rattle.mc_store.specs.declared.access.Access.{Access}
use Rattle.mc_store.specs.declared.access.FetchKind.{FetchKind}
use Rattle.mc_store.specs.declared.access.FetchKind.TheVariants.{Classic, Meta}
use Rattle.mc_store.specs.Rows.{expiry_from, is_won}
use Rattle.mc_store.specs.Shelf.{Shelf}
use Rattle.mc_store.specs.internal.Found.{live}
use Rattle.mc_store.specs.internal.Listed.{ListedItem}

-- whether a client is to recompute the item, once it was read
abbrev pub is_sent_after : FetchKind → Item → ℕ → Bool
is_sent_after Classic item time = item.sent
is_sent_after (Meta recache) item time = item.sent || is_won item recache time

-- the item once it was read
abbrev pub read_item : Access → Item → Item
read_item access item =
    record item {
      last_access = access.time;
      expiry = expiry_from access.touch item.expiry access.time;
      fetched = true;
      sent = is_sent_after access.kind item access.time;
    }

-- the item once it was looked at, which notes no use
abbrev pub seen_item : Access → Item → Item
seen_item access item =
    record item {
      expiry = expiry_from access.touch item.expiry access.time;
      sent = is_sent_after access.kind item access.time;
    }

-- the item that is met under the key, unless it is dead
abbrev pub met : Access → List ℕ → List ListedItem → Option Item
met access key entries = live access.time (lookup (same_key key) entries)

-- The items once that under the key was read, which is this one: it is the most recently used one. Where none is alive,
-- a dead one is gone.
abbrev pub read_entries : Access → List ℕ → List ListedItem → Option Item → List ListedItem
read_entries access key entries None = remove_entry (same_key key) entries
read_entries access key entries (Some item) =
    set_value (same_key key) (promoted (same_key key) entries) (read_item access item)

abbrev pub read_shelf : Access → List ℕ → Shelf → Shelf
read_shelf access key shelf =
    record shelf { entries = read_entries access key shelf.entries (met access key shelf.entries) }

-- the shelf once the item was looked at, which stays where it is
abbrev pub seen_entries : Access → List ℕ → List ListedItem → Option Item → List ListedItem
seen_entries access key entries None = remove_entry (same_key key) entries
seen_entries access key entries (Some item) = set_value (same_key key) entries (seen_item access item)

abbrev pub seen_shelf : Access → List ℕ → Shelf → Shelf
seen_shelf access key shelf =
    record shelf { entries = seen_entries access key shelf.entries (met access key shelf.entries) }
