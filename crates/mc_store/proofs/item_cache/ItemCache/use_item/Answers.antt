use Rattle.std.proofs.Common.{ℕ, List, ap, subst, sym, ◌∙◌}
use Rattle.std.specs.Map.{set_value}
use Rattle.lru.specs.LruCache.{promoted}
use Rattle.mc_wire.specs.SameKey.{same_key}
use Rattle.mc_store.specs.declared.fields.Fields.{Fields}
use Rattle.mc_store.specs.internal.Cached.{AreCached, StoredEntry, shown_entries}
use Rattle.mc_store.specs.internal.Growing.{entries_of}
use Rattle.mc_store.specs.internal.Listed.{ListedItem}
use Rattle.mc_store.proofs.Cached.{cached_used}
use Rattle.mc_store.proofs.Shown.{item_or_none, items_of, none_or_item, used_shown}
use Rattle.mc_store.proofs.TwoLists.{used_whole}
use Rattle.mc_store.proofs.item_cache.ItemCache.use_item.Goals as goal

pub returns-in_default-clause-used : goal.returns-in_default-clause-used
returns-in_default-clause-used c =
    λ item is_shown.
    let none = sym c.in_ok-bring.ensures.found ∙ sym c.in_default.ensures.value in
    absurd (none_or_item c.self.inside.cells (same_key c.args.key.now) (entries_of c.self.inside.cache) item none
    (rw (← c.self.view_is) at is_shown))

pub invariant_of-self-2 : goal.invariant_of-self-2
invariant_of-self-2 c =
    let test = same_key c.args.key.now in
    let es = entries_of c.self.inside.cache in
    let now = c.bring.new.self in
    let found = sym c.in_ok-bring.ensures.found ∙ sym c.in-Some.ensures.value in
    let used = used_whole test now.recent.entries now.older.entries es c.in-Some.stored.now c.note_use.new.stored
    c.in_ok-bring.ensures.recent (sym c.in-Some.ensures.value) c.in_ok-bring.ensures.promoted in
    subst (λ (l : List StoredEntry). AreCached l c.self.inside.cells c.self.inside.budget) (sym used)
    (cached_used c.every_kept.ensures.order c.self.inside.cells c.self.inside.budget test es c.in-Some.stored.now
    c.note_use.new.stored found c.note_use.ensures.place c.self.invariant)

pub returns-clause-used : goal.returns-clause-used
returns-clause-used c =
    λ item is_shown.
    let test = same_key c.args.key.now in
    let es = entries_of c.self.inside.cache in
    let now = c.bring.new.self in
    let new = c.note_use.new.stored in
    let found = sym c.in_ok-bring.ensures.found ∙ sym c.in-Some.ensures.value in
    let used = used_whole test now.recent.entries now.older.entries es c.in-Some.stored.now new
    c.in_ok-bring.ensures.recent (sym c.in-Some.ensures.value) c.in_ok-bring.ensures.promoted in
    let changed = used_shown c.self.inside.cells test es c.in-Some.stored.now new item
    (λ (fields : Fields).
    record fields {
      fetched = c.args.new.fetched;
      sent = c.args.new.sent;
      expiry = c.args.new.expiry;
      last_access = c.args.new.time;
    })
    found (rw (← c.self.view_is) at is_shown) c.note_use.ensures.place c.note_use.ensures.fields in
    rw (← c.self.view_is)
    (ap (λ (l : List StoredEntry). items_of (shown_entries c.self.inside.cells l) now.cap c.self.inside.budget) used
    ∙ (ap (λ (n : ℕ). items_of (shown_entries c.self.inside.cells (set_value test (promoted test es) new)) n
    c.self.inside.budget) c.in_ok-bring.ensures.cap
    ∙ ap (λ (xs : List ListedItem). items_of xs c.self.inside.cache.cap c.self.inside.budget) changed))

pub returns-clause-none : goal.returns-clause-none
returns-clause-none c =
    λ none.
    let found = sym c.in_ok-bring.ensures.found ∙ sym c.in-Some.ensures.value in
    absurd (item_or_none c.self.inside.cells (same_key c.args.key.now) (entries_of c.self.inside.cache)
    c.in-Some.stored.now found (rw (← c.self.view_is) at none))
