use Rattle.std.proofs.Common.{◌≡◌, ℕ, List, ap, refl, subst, sym, ◌∙◌}
use Rattle.std.specs.Map.{set_value}
use Rattle.lru.specs.LruCache.{promoted}
use Rattle.mc_wire.specs.SameKey.{same_key}
use Rattle.mc_store.specs.internal.Cached.{AreCached, StoredEntry, shown_entries}
use Rattle.mc_store.specs.internal.Growing.{entries_of}
use Rattle.mc_store.specs.internal.Listed.{ListedItem}
use Rattle.mc_store.specs.internal.Stored.{fields_of}
use Rattle.mc_store.proofs.Cached.{cached_used, item_found}
use Rattle.mc_store.proofs.Shown.{item_or_none, items_of, none_or_item, read_fields, read_shown, shown_found}
use Rattle.mc_store.proofs.Shown.{shown_none, used_shown}
use Rattle.mc_store.proofs.TwoLists.{used_whole}
use Rattle.mc_store.proofs.item_cache.ItemCache.read_item.Goals as goal

pub returns-in_default-clause-found : goal.returns-in_default-clause-found
returns-in_default-clause-found c =
    let none = sym c.in_ok-bring.ensures.found ∙ sym c.in_default.ensures.value in
    rw (
      ← c.self.view_is,
      shown_none c.self.inside.cells (same_key c.args.key.now) (entries_of c.self.inside.cache) none,
    ) refl

pub returns-in_default-clause-read : goal.returns-in_default-clause-read
returns-in_default-clause-read c =
    λ item is_shown.
    let none = sym c.in_ok-bring.ensures.found ∙ sym c.in_default.ensures.value in
    absurd (none_or_item c.self.inside.cells (same_key c.args.key.now) (entries_of c.self.inside.cache) item none
    (rw (← c.self.view_is) at is_shown))

pub read_value-value-requires-clause-there : goal.read_value-value-requires-clause-there
read_value-value-requires-clause-there c =
    let item = item_found c.every_kept.ensures.there c.self.inside.cells c.self.inside.budget
    (same_key c.args.key.now) (entries_of c.self.inside.cache) c.in-Some.stored.now
    (sym c.in_ok-bring.ensures.found ∙ sym c.in-Some.ensures.value) c.self.invariant in
    rw c.place-place.ensures item.has

pub read_value-value-requires-clause-len : goal.read_value-value-requires-clause-len
read_value-value-requires-clause-len c =
    let item = item_found c.every_kept.ensures.there c.self.inside.cells c.self.inside.budget
    (same_key c.args.key.now) (entries_of c.self.inside.cache) c.in-Some.stored.now
    (sym c.in_ok-bring.ensures.found ∙ sym c.in-Some.ensures.value) c.self.invariant in
    rw c.place-place.ensures item.len

pub read_value-value-requires-clause-within : goal.read_value-value-requires-clause-within
read_value-value-requires-clause-within c =
    let item = item_found c.every_kept.ensures.there c.self.inside.cells c.self.inside.budget
    (same_key c.args.key.now) (entries_of c.self.inside.cache) c.in-Some.stored.now
    (sym c.in_ok-bring.ensures.found ∙ sym c.in-Some.ensures.value) c.self.invariant in
    rw c.place-place.ensures item.small

pub of_bytes-requires : goal.of_bytes-requires
of_bytes-requires c =
    let item = item_found c.every_kept.ensures.there c.self.inside.cells c.self.inside.budget
    (same_key c.args.key.now) (entries_of c.self.inside.cache) c.in-Some.stored.now
    (sym c.in_ok-bring.ensures.found ∙ sym c.in-Some.ensures.value) c.self.invariant in
    rw (c.read_value-value.ensures.value, c.place-place.ensures, item.len) item.small

pub invariant_of-self-2 : goal.invariant_of-self-2
invariant_of-self-2 c =
    let test = same_key c.args.key.now in
    let es = entries_of c.self.inside.cache in
    let now = c.bring.new.self in
    let found = sym c.in_ok-bring.ensures.found ∙ sym c.in-Some.ensures.value in
    let used = used_whole test now.recent.entries now.older.entries es c.in-Some.stored.now c.note_use.new.stored
    c.in_ok-bring.ensures.recent (sym c.in-Some.ensures.value) c.in_ok-bring.ensures.promoted in
    rw c.read_value-value.ensures.unchanged
    (subst (λ (l : List StoredEntry). AreCached l c.self.inside.cells c.self.inside.budget) (sym used)
    (cached_used c.every_kept.ensures.order c.self.inside.cells c.self.inside.budget test es c.in-Some.stored.now
    c.note_use.new.stored found c.note_use.ensures.place c.self.invariant))

pub returns-clause-found : goal.returns-clause-found
returns-clause-found c =
    rw (
      c.with_value.ensures,
      c.of_bytes.ensures,
      c.read_value-value.ensures.value,
      c.place-place.ensures,
      c.fields-fields.ensures.fields,
      ← c.self.view_is,
      shown_found c.self.inside.cells (same_key c.args.key.now) (entries_of c.self.inside.cache)
          c.in-Some.stored.now (sym c.in_ok-bring.ensures.found ∙ sym c.in-Some.ensures.value),
    ) refl

pub returns-clause-read : goal.returns-clause-read
returns-clause-read c =
    λ item is_shown.
    let test = same_key c.args.key.now in
    let es = entries_of c.self.inside.cache in
    let now = c.bring.new.self in
    let new = c.note_use.new.stored in
    let found = sym c.in_ok-bring.ensures.found ∙ sym c.in-Some.ensures.value in
    let used = used_whole test now.recent.entries now.older.entries es c.in-Some.stored.now new
    c.in_ok-bring.ensures.recent (sym c.in-Some.ensures.value) c.in_ok-bring.ensures.promoted in
    let fields : fields_of new ≡ read_fields c.args.access (fields_of c.in-Some.stored.now)
    = rw (c.use_of.ensures, c.fields-fields.ensures.fields) at c.note_use.ensures.fields in
    let changed = used_shown c.self.inside.cells test es c.in-Some.stored.now new item (read_fields c.args.access)
    found (rw (← c.self.view_is) at is_shown) c.note_use.ensures.place fields in
    rw (c.read_value-value.ensures.unchanged, ← c.self.view_is, ← read_shown c.args.access item)
    (ap (λ (l : List StoredEntry). items_of (shown_entries c.self.inside.cells l) now.cap c.self.inside.budget) used
    ∙ (ap (λ (n : ℕ). items_of (shown_entries c.self.inside.cells (set_value test (promoted test es) new)) n
    c.self.inside.budget) c.in_ok-bring.ensures.cap
    ∙ ap (λ (xs : List ListedItem). items_of xs c.self.inside.cache.cap c.self.inside.budget) changed))

pub returns-clause-none : goal.returns-clause-none
returns-clause-none c =
    λ none.
    let found = sym c.in_ok-bring.ensures.found ∙ sym c.in-Some.ensures.value in
    absurd (item_or_none c.self.inside.cells (same_key c.args.key.now) (entries_of c.self.inside.cache)
    c.in-Some.stored.now found (rw (← c.self.view_is) at none))
