use Rattle.std.proofs.Common.{refl, sym}
use Rattle.mc_wire.specs.SameKey.{same_key}
use Rattle.mc_store.specs.internal.Growing.{entries_of}
use Rattle.mc_store.proofs.Shown.{shown_found, shown_none}
use Rattle.mc_store.proofs.item_cache.ItemCache.peek.Goals as goal

pub returns-in_err-stored : goal.returns-in_err-stored
returns-in_err-stored c =
    rw (
      c.from_residual.ensures,
      ← c.self.view_is,
      shown_none c.self.inside.cells (same_key c.args.key.now) (entries_of c.self.inside.cache)
          (sym c.in_err-stored.ensures),
    ) refl

pub returns : goal.returns
returns c =
    rw (
      c.fields.ensures.fields,
      ← c.self.view_is,
      shown_found c.self.inside.cells (same_key c.args.key.now) (entries_of c.self.inside.cache)
          c.in_ok-stored.stored.now (sym c.in_ok-stored.ensures),
    ) refl
