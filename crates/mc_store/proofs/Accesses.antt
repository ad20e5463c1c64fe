-- What a look-up of a reading command makes of a shard's items.
use Rattle.std.proofs.Common.{◌≡◌, ℕ, List, Some, None, true, sym, nat_eq}
use Rattle.std.specs.Cmp.Lexicographic.{pointwise}
use Rattle.std.specs.Map.{lookup, remove_entry, set_value}
use Rattle.lru.specs.LruCache.{promoted}
use Rattle.mc_item.specs.declared.item.Item.{Item}
use Rattle.mc_item.specs.Expiry.{is_dead}
use Rattle.mc_store.specs.declared.access.Access.{Access}
use Rattle.mc_store.specs.Shelf.{Shelf}
use Rattle.mc_store.specs.internal.Access.{read_shelf, seen_shelf}
use Rattle.mc_store.proofs.Listed.{not_found, first_gone}
use Rattle.mc_store.proofs.Changes.{dead_none}

-- To read under a key that is absent leaves the items as they are.
pub read_absent : (access : Access) (key : List ℕ) (shelf : Shelf) → None ≡ lookup (pointwise nat_eq key) shelf.entries
    → shelf ≡ read_shelf access key shelf
read_absent access key shelf none = rw (← none, (not_found shelf.entries key (sym none)).1)

-- To look under a key that is absent, without noting a use, leaves the items as they are.
pub seen_absent : (access : Access) (key : List ℕ) (shelf : Shelf) → None ≡ lookup (pointwise nat_eq key) shelf.entries
    → shelf ≡ seen_shelf access key shelf
seen_absent access key shelf none = rw (← none, (not_found shelf.entries key (sym none)).1)

-- To remove a dead item that was just made the most recently used one leaves what a read of it is to leave.
pub read_dead : (access : Access) (key : List ℕ) (shelf : Shelf) (item new : Item) → Some item
    ≡ lookup (pointwise nat_eq key) shelf.entries → is_dead item.expiry access.time ≡ true →
    record shelf {
      entries = remove_entry (pointwise nat_eq key)
          (set_value (pointwise nat_eq key) (promoted (pointwise nat_eq key) shelf.entries) new);
    } ≡ read_shelf access key shelf
read_dead access key shelf item new is dead =
    rw (
      first_gone shelf.entries key item new (sym is),
      ← dead_none access.time item (lookup (pointwise nat_eq key) shelf.entries) is dead,
    )
