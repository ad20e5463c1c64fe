use Rattle.std.proofs.Common.{refl, sym}
use Rattle.mc_wire.specs.SameKey.{same_key}
use Rattle.mc_store.proofs.TwoLists.{lookup-first, lookup-second}
use Rattle.mc_store.proofs.growing.GrowingMap.peek.Goals as goal

pub returns-in-Some : goal.returns-in-Some
returns-in-Some c =
    rw (
      ← c.self.view_is,
      lookup-first (same_key c.args.key.now) c.self.inside.recent.entries c.self.inside.older.entries
          c.in-Some.stored.now (sym c.in-Some.ensures),
    ) refl

pub returns-in-None : goal.returns-in-None
returns-in-None c =
    rw (
      ← c.self.view_is,
      lookup-second (same_key c.args.key.now) c.self.inside.recent.entries c.self.inside.older.entries
          (sym c.in-None.ensures),
    ) (rw (← c.self.view_is) at c.peek_older.ensures)
