-- What is shown of the items that are kept.
use Rattle.std.proofs.Common.{◌≡◌, ℕ, ◌<◌, Bool, true}
use Rattle.std.proofs.Common.{List, [], Option, Some, None}
use Rattle.std.proofs.Common.{refl, sym, ap, ◌∙◌, length, ◌-◌, take}
use Rattle.std.specs.Prelude.{slice_get}
use Rattle.std.proofs.lemmas.List.{length-map, take-map}
use Rattle.std.proofs.lemmas.Option.{slice_get-map}
use Rattle.std.specs.Option.{option_map}
use Rattle.std.specs.Map.{lookup, set_value}
use Rattle.lru.specs.LruCache.{last_entry, promoted}
use Rattle.mc_cells.specs.declared.place.Place.{Place}
use Rattle.mc_cells.specs.Contents.{Contents, value_at}
use Rattle.mc_item.specs.declared.item.Item.{Item}
use Rattle.mc_store.specs.Rows.{expiry_from}
use Rattle.mc_store.specs.declared.access.Access.{Access}
use Rattle.mc_store.specs.declared.access.FetchKind.{FetchKind}
use Rattle.mc_store.specs.declared.access.FetchKind.TheVariants.{Classic, Meta}
use Rattle.mc_store.specs.declared.fields.Fields.{Fields}
use Rattle.mc_store.specs.declared.stored.Stored.{Stored}
use Rattle.mc_store.specs.internal.Access.{is_sent_after, read_item}
use Rattle.mc_store.specs.internal.Stored.{fields_in, fields_of, item_with, place_in, shown}
use Rattle.mc_store.specs.internal.Listed.{ListedItem}
use Rattle.mc_store.specs.internal.Cached.{CachedItems, StoredEntry, shown_entry, shown_entries}
use Rattle.mc_store.proofs.Mapped.{lookup-mapped}
use Rattle.mc_store.proofs.Mapped.{promoted-mapped, set_value-mapped}

-- An item that is looked up is the one that is shown of what is kept.
pub shown_found : (contents : Contents) (test : List ℕ → Bool) (es : List StoredEntry) (stored : Stored)
    → lookup test es ≡ Some stored → lookup test (shown_entries contents es) ≡ Some (shown contents stored)
shown_found contents test es stored found =
    lookup-mapped (shown contents) test es ∙ ap (option_map (shown contents)) found

-- Where none is kept none is shown.
pub shown_none : (contents : Contents) (test : List ℕ → Bool) (es : List StoredEntry) → lookup test es ≡ None
    → lookup test (shown_entries contents es) ≡ None
shown_none contents test es none = lookup-mapped (shown contents) test es ∙ ap (option_map (shown contents)) none

-- the items of a shard as contracts see them
abbrev pub items_of : List ListedItem → ℕ → ℕ → CachedItems
items_of entries cap budget = record { entries = entries; cap = cap; budget = budget }

-- An item that is shown is that of what is kept.
pub item_is : (contents : Contents) (test : List ℕ → Bool) (es : List StoredEntry) (stored : Stored) (item : Item)
    → lookup test es ≡ Some stored → lookup test (shown_entries contents es) ≡ Some item
    → shown contents stored ≡ item
item_is contents test es stored item found is_shown =
    let same : Some (shown contents stored) ≡ Some item
    = sym (shown_found contents test es stored found) ∙ is_shown in
    cc (same)

-- No item is shown where none is kept.
pub none_or_item : (contents : Contents) (test : List ℕ → Bool) (es : List StoredEntry) (item : Item)
    → lookup test es ≡ None → lookup test (shown_entries contents es) ≡ Some item → ⊥
none_or_item contents test es item none is_shown =
    let same : ◌≡◌ {A = Option Item} None (Some item) = sym (shown_none contents test es none) ∙ is_shown in
    cc (same)

-- One is shown where one is kept.
pub item_or_none : (contents : Contents) (test : List ℕ → Bool) (es : List StoredEntry) (stored : Stored)
    → lookup test es ≡ Some stored → lookup test (shown_entries contents es) ≡ None → ⊥
item_or_none contents test es stored found none =
    let same : ◌≡◌ {A = Option Item} None (Some (shown contents stored))
    = sym none ∙ shown_found contents test es stored found in
    cc (same)

-- An item whose fields change is shown with the changed ones.
pub shown_changed : (contents : Contents) (test : List ℕ → Bool) (es : List StoredEntry) (stored new : Stored)
    (item : Item) (change : Fields → Fields) → lookup test es ≡ Some stored
    → lookup test (shown_entries contents es) ≡ Some item → place_in new ≡ place_in stored
    → fields_of new ≡ change (fields_of stored) → shown contents new ≡ item_with (change (fields_in item)) item.value
shown_changed contents test es stored new item change found is_shown place fields =
    let same = item_is contents test es stored item found is_shown in
    ap (λ (f : Fields). item_with f (value_at contents (place_in new))) fields
    ∙ ap (λ (p : Place). item_with (change (fields_of stored)) (value_at contents p)) place
    ∙ ap (λ (i : Item). item_with (change (fields_in i)) i.value) same

-- It is set in place.
pub set_shown : (contents : Contents) (test : List ℕ → Bool) (es : List StoredEntry) (stored new : Stored)
    (item : Item) (change : Fields → Fields) → lookup test es ≡ Some stored
    → lookup test (shown_entries contents es) ≡ Some item → place_in new ≡ place_in stored
    → fields_of new ≡ change (fields_of stored)
    → shown_entries contents (set_value test es new)
    ≡ set_value test (shown_entries contents es) (item_with (change (fields_in item)) item.value)
set_shown contents test es stored new item change found is_shown place fields =
    sym (set_value-mapped (shown contents) test es new)
    ∙ ap (λ (i : Item). set_value test (shown_entries contents es) i)
    (shown_changed contents test es stored new item change found is_shown place fields)

-- It is set where it was made the first.
pub used_shown : (contents : Contents) (test : List ℕ → Bool) (es : List StoredEntry) (stored new : Stored)
    (item : Item) (change : Fields → Fields) → lookup test es ≡ Some stored
    → lookup test (shown_entries contents es) ≡ Some item → place_in new ≡ place_in stored
    → fields_of new ≡ change (fields_of stored)
    → shown_entries contents (set_value test (promoted test es) new)
    ≡ set_value test (promoted test (shown_entries contents es)) (item_with (change (fields_in item)) item.value)
used_shown contents test es stored new item change found is_shown place fields =
    let changed = item_with (change (fields_in item)) item.value in
    sym (set_value-mapped (shown contents) test (promoted test es) new)
    ∙ ap (λ (i : Item). set_value test (shown_entries contents (promoted test es)) i)
    (shown_changed contents test es stored new item change found is_shown place fields)
    ∙ ap (λ (xs : List ListedItem). set_value test xs changed) (sym (promoted-mapped (shown contents) test es))

-- The fields once an item was read.
abbrev pub read_fields : Access → Fields → Fields
read_fields access fields =
    record fields {
      fetched = true;
      sent = is_sent_after access.kind (item_with fields []) access.time;
      expiry = expiry_from access.touch fields.expiry access.time;
      last_access = access.time;
    }

-- Whether a client is to recompute an item does not depend on its value.
sent_without : (kind : FetchKind) (item : Item) (time : ℕ)
    → is_sent_after kind (item_with (fields_in item) []) time ≡ is_sent_after kind item time
sent_without Classic item time = refl
sent_without (Meta recache) item time = refl

-- A read changes an item as it changes the fields.
pub read_shown : (access : Access) (item : Item)
    → item_with (read_fields access (fields_in item)) item.value ≡ read_item access item
read_shown access item =
    ap
    (λ (sent : Bool).
    record item {
      last_access = access.time;
      expiry = expiry_from access.touch item.expiry access.time;
      fetched = true;
      sent = sent;
    })
    (sent_without access.kind item access.time)

-- It is shown as the last one.
pub last_shown : (contents : Contents) (es : List StoredEntry) (e : StoredEntry) → last_entry es ≡ Some e
    → last_entry (shown_entries contents es) ≡ Some (shown_entry contents e)
last_shown contents es e found =
    ap (λ (n : ℕ). slice_get (shown_entries contents es) (n - 1)) (length-map es (shown_entry contents))
    ∙ slice_get-map (shown_entry contents) es (length es - 1) ∙ ap (option_map (shown_entry contents)) found

-- What is shown without the last one.
pub shown_without_last : (contents : Contents) (es : List StoredEntry)
    → shown_entries contents (take (length es - 1) es)
    ≡ take (length (shown_entries contents es) - 1) (shown_entries contents es)
shown_without_last contents es =
    sym (
    ap (λ (n : ℕ). take (n - 1) (shown_entries contents es)) (length-map es (shown_entry contents))
    ∙ take-map (shown_entry contents) (length es - 1) es
    )

-- As many items are kept as are shown.
pub few_kept : (contents : Contents) (es : List StoredEntry) (cap : ℕ) → length (shown_entries contents es) < cap
    → length es < cap
few_kept contents es cap few = rw (length-map es (shown_entry contents)) at few
