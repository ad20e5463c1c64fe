use Rattle.std.proofs.Common.{refl, sym}
use Rattle.mc_wire.specs.SameKey.{same_key}
use Rattle.mc_store.specs.internal.Growing.{entries_of}
use Rattle.mc_store.specs.internal.Stored.{shown}
use Rattle.mc_store.proofs.Cached.{item_found, item_out, none_removed}
use Rattle.mc_store.proofs.Shown.{shown_found, shown_none}
use Rattle.mc_store.proofs.Mapped.{remove_entry-mapped}
use Rattle.mc_store.proofs.item_cache.ItemCache.pop.Goals as goal

pub invariant_of-self : goal.invariant_of-self
invariant_of-self c =
    let es = entries_of c.self.inside.cache in
    let none = none_removed (same_key c.args.key.now) es (sym c.in_err-stored.ensures.value) in
    rw (c.pop.ensures.entries, none) c.self.invariant

pub remove-requires : goal.remove-requires
remove-requires c =
    let test = same_key c.args.key.now in
    let es = entries_of c.self.inside.cache in
    let found = sym c.in_ok-stored.ensures.value in
    rw c.place-place.ensures
    (item_found c.every_kept.ensures.there c.self.inside.cells c.self.inside.budget test es c.in_ok-stored.stored found
    c.self.invariant).has

pub invariant_of-self-2 : goal.invariant_of-self-2
invariant_of-self-2 c =
    let test = same_key c.args.key.now in
    let es = entries_of c.self.inside.cache in
    let found = sym c.in_ok-stored.ensures.value in
    let removed = rw c.place-place.ensures at c.remove.ensures.removed in
    rw c.pop.ensures.entries
    (item_out c.every_kept.ensures.there c.self.inside.cells c.remove.new.self c.self.inside.budget test es
    c.in_ok-stored.stored found c.self.invariant (λ front back value kept. removed front back value kept)
    c.remove.ensures.room).cached

pub returns-in_err-stored-clause-item : goal.returns-in_err-stored-clause-item
returns-in_err-stored-clause-item c =
    let test = same_key c.args.key.now in
    let es = entries_of c.self.inside.cache in
    rw (
      c.from_residual.ensures,
      ← c.self.view_is,
      shown_none c.self.inside.cells test es (sym c.in_err-stored.ensures.value),
    ) refl

pub returns-in_err-stored-clause-left : goal.returns-in_err-stored-clause-left
returns-in_err-stored-clause-left c =
    let test = same_key c.args.key.now in
    let es = entries_of c.self.inside.cache in
    rw (
      c.pop.ensures.entries,
      c.pop.ensures.cap,
      ← c.self.view_is,
      remove_entry-mapped (shown c.self.inside.cells) test es,
    ) refl

pub returns-clause-item : goal.returns-clause-item
returns-clause-item c =
    let test = same_key c.args.key.now in
    let es = entries_of c.self.inside.cache in
    let found = sym c.in_ok-stored.ensures.value in
    let item = item_found c.every_kept.ensures.there c.self.inside.cells c.self.inside.budget test es
    c.in_ok-stored.stored found c.self.invariant in
    rw (
      c.fields.ensures.fields,
      c.len.ensures,
      c.place-place.ensures,
      ← c.self.view_is,
      shown_found c.self.inside.cells test es c.in_ok-stored.stored found,
      item.len,
    ) refl

pub returns-clause-left : goal.returns-clause-left
returns-clause-left c =
    let test = same_key c.args.key.now in
    let es = entries_of c.self.inside.cache in
    let found = sym c.in_ok-stored.ensures.value in
    let removed = rw c.place-place.ensures at c.remove.ensures.removed in
    let left = item_out c.every_kept.ensures.there c.self.inside.cells c.remove.new.self c.self.inside.budget test es
    c.in_ok-stored.stored found c.self.invariant (λ front back value kept. removed front back value kept)
    c.remove.ensures.room in
    rw (
      c.pop.ensures.entries,
      c.pop.ensures.cap,
      ← c.self.view_is,
      remove_entry-mapped (shown c.self.inside.cells) test es,
      left.items,
    ) refl
