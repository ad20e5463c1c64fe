use Rattle.std.proofs.Common.{refl}
use Rattle.mc_wire.specs.SameKey.{same_key}
use Rattle.mc_store.proofs.TwoLists.{apart-used, lookup-only_first}
use Rattle.mc_store.proofs.growing.GrowingMap.get_mut.Goals as goal

pub invariant_of-self-lent : goal.invariant_of-self-lent
invariant_of-self-lent c =
    λ some. (
      λ w. apart-used (same_key c.args.key.now) c.self.inside.recent.entries c.self.inside.older.entries w
          c.self.invariant,
      c.self.invariant,
    )

pub returns : goal.returns
returns c =
    let none = rw (← c.self.view_is) at c.requires in (
      rw (← c.self.view_is) refl,
      record {
        writes_back = tt;
        value = rw (
          ← c.self.view_is,
          lookup-only_first (same_key c.args.key.now) c.self.inside.recent.entries c.self.inside.older.entries none,
        ) c.get_mut.ensures.value;
      },
    )
