use Rattle.std.proofs.Common.{◌≡◌, Option, None, Some, refl}
use Rattle.std.specs.Map.{lookup}
use Rattle.mc_wire.specs.SameKey.{same_key}
use Rattle.mc_item.specs.declared.item.Item.{Item}
use Rattle.mc_store.specs.internal.Listed.{IsCounted}
use Rattle.mc_store.proofs.Listed.{counted_first}
use Rattle.mc_store.proofs.items.Items.promote.Goals as goal

pub invariant_of-self-2 : goal.invariant_of-self-2
invariant_of-self-2 c = by_lookup (lookup (same_key c.args.key.now) c.self.inside.cache.entries) refl where
  by_lookup : (o : Option Item) → lookup (same_key c.args.key.now) c.self.inside.cache.entries ≡ o
      → IsCounted c.use_item.new.self.entries c.use_item.new.self.cap c.self.inside.cost c.use_item.new.self.budget
  by_lookup None is = rw (c.use_item.ensures.none is) c.self.invariant
  by_lookup (Some item) is =
      rw (c.in_ok-use_item.ensures.used item is)
      (counted_first c.self.inside.cache.entries c.self.inside.cache.cap c.self.inside.cost c.self.inside.cache.budget
      c.args.key.now item _ c.self.invariant is refl)
