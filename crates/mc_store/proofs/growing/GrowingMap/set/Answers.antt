use Rattle.std.proofs.Common.{refl, sym}
use Rattle.mc_wire.specs.SameKey.{same_key}
use Rattle.mc_store.proofs.TwoLists.{apart-set, apart-set_older, set-first, set-none, set-second}
use Rattle.mc_store.proofs.growing.GrowingMap.set.Goals as goal

pub invariant_of-self : goal.invariant_of-self
invariant_of-self c =
    apart-set (same_key c.args.key.now) c.self.inside.recent.entries c.self.inside.older.entries c.args.stored
    c.self.invariant

pub returns-in-Some-clause-entries : goal.returns-in-Some-clause-entries
returns-in-Some-clause-entries c =
    rw (
      ← c.self.view_is,
      set-first (same_key c.args.key.now) c.self.inside.recent.entries c.self.inside.older.entries
          c.in-Some.there.now c.args.stored (sym c.in-Some.ensures.value),
    ) refl

pub returns-in_default-peek_mut-clause-entries : goal.returns-in_default-peek_mut-clause-entries
returns-in_default-peek_mut-clause-entries c =
    rw (
      ← c.self.view_is,
      set-second (same_key c.args.key.now) c.self.inside.recent.entries c.self.inside.older.entries c.args.stored
          (sym c.in_default.ensures.value),
      set-none (same_key c.args.key.now) c.self.inside.older.entries c.args.stored
          (sym c.in_default-peek_mut.ensures.value),
    ) refl

pub invariant_of-self-2 : goal.invariant_of-self-2
invariant_of-self-2 c =
    apart-set_older (same_key c.args.key.now) c.self.inside.recent.entries c.self.inside.older.entries c.args.stored
    c.self.invariant

pub returns-clause-entries : goal.returns-clause-entries
returns-clause-entries c =
    rw (
      ← c.self.view_is,
      set-second (same_key c.args.key.now) c.self.inside.recent.entries c.self.inside.older.entries c.args.stored
          (sym c.in_default.ensures.value),
    ) refl
