use Rattle.std.proofs.Common.{refl, sym}
use Rattle.mc_wire.specs.SameKey.{same_key}
use Rattle.mc_store.specs.internal.Growing.{entries_of}
use Rattle.mc_store.proofs.Cached.{item_found}
use Rattle.mc_store.proofs.Shown.{shown_found, shown_none}
use Rattle.mc_store.proofs.item_cache.ItemCache.value.Goals as goal

pub returns-in_default-clause-value : goal.returns-in_default-clause-value
returns-in_default-clause-value c =
    rw (
      ← c.self.view_is,
      shown_none c.self.inside.cells (same_key c.args.key.now) (entries_of c.self.inside.cache)
          (sym c.in_default.ensures),
    ) refl

pub read-requires : goal.read-requires
read-requires c =
    let item = item_found c.every_kept.ensures.there c.self.inside.cells c.self.inside.budget
    (same_key c.args.key.now) (entries_of c.self.inside.cache) c.in-Some.stored.now (sym c.in-Some.ensures)
    c.self.invariant in
    rw c.place-place.ensures item.has

pub of_bytes-requires : goal.of_bytes-requires
of_bytes-requires c =
    let item = item_found c.every_kept.ensures.there c.self.inside.cells c.self.inside.budget
    (same_key c.args.key.now) (entries_of c.self.inside.cache) c.in-Some.stored.now (sym c.in-Some.ensures)
    c.self.invariant in
    rw (c.in_ok-bytes.ensures.value, c.place-place.ensures, item.len) item.small

pub returns-clause-value : goal.returns-clause-value
returns-clause-value c =
    rw (
      c.of_bytes.ensures,
      c.in_ok-bytes.ensures.value,
      c.place-place.ensures,
      ← c.self.view_is,
      shown_found c.self.inside.cells (same_key c.args.key.now) (entries_of c.self.inside.cache) c.in-Some.stored.now
          (sym c.in-Some.ensures),
    ) refl
