use Rattle.std.proofs.Common.{◌≡◌, Option, None, Some, refl}
use Rattle.std.specs.Map.{lookup}
use Rattle.mc_wire.specs.SameKey.{same_key}
use Rattle.mc_item.specs.declared.item.Item.{Item}
use Rattle.mc_store.specs.internal.Listed.{IsCounted}
use Rattle.mc_store.proofs.Listed.{counted_set}
use Rattle.mc_store.proofs.items.Items.mark_stale.Goals as goal

pub invariant_of-self : goal.invariant_of-self
invariant_of-self c = by_lookup (lookup (same_key c.args.key.now) c.self.inside.cache.entries) refl where
  by_lookup : (o : Option Item) → lookup (same_key c.args.key.now) c.self.inside.cache.entries ≡ o
      → IsCounted c.mark_stale.new.self.entries c.mark_stale.new.self.cap c.self.inside.cost
      c.mark_stale.new.self.budget
  by_lookup None is = rw (c.mark_stale.ensures.none is) c.self.invariant
  by_lookup (Some item) is =
      rw (c.mark_stale.ensures.marked item is)
      (counted_set c.self.inside.cache.entries c.self.inside.cache.cap c.self.inside.cost c.self.inside.cache.budget
      c.args.key.now item _ c.self.invariant is refl)
