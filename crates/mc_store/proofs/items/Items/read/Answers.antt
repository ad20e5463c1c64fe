use Rattle.std.proofs.Common.{◌≡◌, Option, None, Some, refl, sym, ◌∙◌}
use Rattle.std.specs.Map.{lookup}
use Rattle.mc_wire.specs.SameKey.{same_key}
use Rattle.mc_item.specs.declared.item.Item.{Item}
use Rattle.mc_store.specs.Shelf.{Shelf}
use Rattle.mc_store.specs.internal.Access.{read_item}
use Rattle.mc_store.specs.internal.Listed.{IsCounted}
use Rattle.mc_store.proofs.Listed.{counted_first}
use Rattle.mc_store.proofs.Accesses.{read_absent, read_dead}
use Rattle.mc_store.proofs.items.Items.read.Goals as goal

pub invariant_of-self : goal.invariant_of-self
invariant_of-self c = by_lookup (lookup (same_key c.args.key.now) c.self.inside.cache.entries) refl where
  by_lookup : (o : Option Item) → lookup (same_key c.args.key.now) c.self.inside.cache.entries ≡ o
      → IsCounted c.read_item.new.self.entries c.read_item.new.self.cap c.self.inside.cost c.read_item.new.self.budget
  by_lookup None is = rw (c.in-Ok.ensures.none is) c.self.invariant
  by_lookup (Some item) is =
      rw (c.in-Ok.ensures.read item is)
      (counted_first c.self.inside.cache.entries c.self.inside.cache.cap c.self.inside.cost c.self.inside.cache.budget
      c.args.key.now item (read_item c.args.access item) c.self.invariant is refl)

pub returns-in_default-found-clause-read : goal.returns-in_default-found-clause-read
returns-in_default-found-clause-read c =
    let shelf : Shelf = record {
      entries = c.self.inside.cache.entries;
      budget = c.self.inside.cache.budget;
      evicted = c.self.inside.evicted;
    } in
    let none = sym c.in-Ok.ensures.found ∙ c.in_default-found.is in
    rw (c.in-Ok.ensures.none none, ← c.self.view_is)
    (read_absent c.args.access c.args.key.now shelf (sym none))

pub returns-then-is_dead-clause-read : goal.returns-then-is_dead-clause-read
returns-then-is_dead-clause-read c =
    let shelf : Shelf = record {
      entries = c.self.inside.cache.entries;
      budget = c.self.inside.cache.budget;
      evicted = c.self.inside.evicted;
    } in
    let found = sym c.in-Ok.ensures.found ∙ c.in-Some.is in
    rw (c.remove_read.ensures, c.in-Ok.ensures.read c.in-Some.item found, ← c.self.view_is)
    (read_dead c.args.access c.args.key.now shelf c.in-Some.item (read_item c.args.access c.in-Some.item)
    (sym found) (sym c.is_dead.ensures ∙ c.if-is_dead.true))
