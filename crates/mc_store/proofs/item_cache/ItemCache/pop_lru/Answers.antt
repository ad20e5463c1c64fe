use Rattle.std.proofs.Common.{List, ap, refl, sym, ◌∙◌}
use Rattle.mc_store.specs.internal.Growing.{entries_of}
use Rattle.mc_store.specs.internal.Listed.{ListedItem}
use Rattle.mc_store.proofs.Cached.{last_found, last_out}
use Rattle.mc_store.proofs.Shown.{items_of, last_shown, shown_without_last}
use Rattle.mc_store.proofs.item_cache.ItemCache.pop_lru.Goals as goal

pub remove-requires : goal.remove-requires
remove-requires c =
    let item = last_found c.every_kept.ensures.there c.self.inside.cells c.self.inside.budget
    (entries_of c.self.inside.cache) (c.in_ok-key.key, c.in_ok-key.stored) (sym c.in_ok-key.ensures.value)
    c.self.invariant in
    rw c.place-place.ensures item.has

pub invariant_of-self-2 : goal.invariant_of-self-2
invariant_of-self-2 c =
    let removed = rw c.place-place.ensures at c.remove.ensures.removed in
    rw c.pop_lru.ensures.entries
    (last_out c.every_kept.ensures.there c.self.inside.cells c.remove.new.self c.self.inside.budget
    (entries_of c.self.inside.cache) (c.in_ok-key.key, c.in_ok-key.stored) (sym c.in_ok-key.ensures.value)
    c.self.invariant
    (λ front back value kept. removed front back value kept) c.remove.ensures.room).cached

pub returns-clause-item : goal.returns-clause-item
returns-clause-item c =
    let item = last_found c.every_kept.ensures.there c.self.inside.cells c.self.inside.budget
    (entries_of c.self.inside.cache) (c.in_ok-key.key, c.in_ok-key.stored) (sym c.in_ok-key.ensures.value)
    c.self.invariant in
    rw (
      c.len.ensures,
      c.place-place.ensures,
      ← c.self.view_is,
      last_shown c.self.inside.cells (entries_of c.self.inside.cache) (c.in_ok-key.key, c.in_ok-key.stored)
          (sym c.in_ok-key.ensures.value),
      item.len,
    ) refl

pub returns-clause-left : goal.returns-clause-left
returns-clause-left c =
    let removed = rw c.place-place.ensures at c.remove.ensures.removed in
    let left = last_out c.every_kept.ensures.there c.self.inside.cells c.remove.new.self c.self.inside.budget
    (entries_of c.self.inside.cache) (c.in_ok-key.key, c.in_ok-key.stored) (sym c.in_ok-key.ensures.value)
    c.self.invariant (λ front back value kept. removed front back value kept) c.remove.ensures.room in
    rw (c.pop_lru.ensures.entries, c.pop_lru.ensures.cap, ← c.self.view_is)
    (ap (λ (xs : List ListedItem). items_of xs c.self.inside.cache.cap c.self.inside.budget)
    (left.items ∙ shown_without_last c.self.inside.cells (entries_of c.self.inside.cache)))
