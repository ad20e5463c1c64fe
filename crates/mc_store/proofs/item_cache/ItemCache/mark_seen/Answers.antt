use Rattle.std.proofs.Common.{List, ap, sym}
use Rattle.mc_wire.specs.SameKey.{same_key}
use Rattle.mc_store.specs.declared.fields.Fields.{Fields}
use Rattle.mc_store.specs.internal.Growing.{entries_of}
use Rattle.mc_store.specs.internal.Listed.{ListedItem}
use Rattle.mc_store.proofs.Cached.{cached_set}
use Rattle.mc_store.proofs.Shown.{item_or_none, items_of, none_or_item, set_shown}
use Rattle.mc_store.proofs.item_cache.ItemCache.mark_seen.Goals as goal

pub returns-in_default-clause-marked : goal.returns-in_default-clause-marked
returns-in_default-clause-marked c =
    λ item is_shown.
    let none = sym c.in_default.ensures in
    absurd (none_or_item c.self.inside.cells (same_key c.args.key.now) (entries_of c.self.inside.cache) item none
    (rw (← c.self.view_is) at is_shown))

pub invariant_of-self : goal.invariant_of-self
invariant_of-self c =
    rw c.set.ensures.entries
    (cached_set c.self.inside.cells c.self.inside.budget (same_key c.args.key.now) (entries_of c.self.inside.cache)
    c.in-Some.seen.now c.note_seen.new.stored (sym c.in-Some.ensures) c.note_seen.ensures.place c.self.invariant)

pub returns-clause-marked : goal.returns-clause-marked
returns-clause-marked c =
    λ item is_shown.
    let changed = set_shown c.self.inside.cells (same_key c.args.key.now) (entries_of c.self.inside.cache)
    c.in-Some.seen.now c.note_seen.new.stored item
    (λ (fields : Fields). record fields { sent = c.args.new.sent; expiry = c.args.new.expiry })
    (sym c.in-Some.ensures) (rw (← c.self.view_is) at is_shown) c.note_seen.ensures.place
    c.note_seen.ensures.fields in
    rw (c.set.ensures.entries, c.set.ensures.cap, ← c.self.view_is)
    (ap (λ (xs : List ListedItem). items_of xs c.self.inside.cache.cap c.self.inside.budget) changed)

pub returns-clause-none : goal.returns-clause-none
returns-clause-none c =
    λ none.
    absurd (item_or_none c.self.inside.cells (same_key c.args.key.now) (entries_of c.self.inside.cache)
    c.in-Some.seen.now (sym c.in-Some.ensures) (rw (← c.self.view_is) at none))
