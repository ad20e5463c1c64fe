use Rattle.mc_wire.specs.SameKey.{same_key}
use Rattle.mc_store.proofs.TwoLists.{apart-put_entries, lookup-only_first, put-two}
use Rattle.mc_store.proofs.growing.GrowingMap.put_recent.Goals as goal

pub invariant_of-self : goal.invariant_of-self
invariant_of-self c =
    let gone = rw (← c.self.view_is) at c.requires.absent in
    let few = rw (← c.self.view_is) at c.requires.recent in
    rw c.in-Ok.ensures.entries
    (apart-put_entries c.args.key c.args.stored c.self.inside.recent.entries c.self.inside.older.entries
    c.self.inside.recent.cap gone few c.self.invariant)

pub returns-in-Ok-clause-old : goal.returns-in-Ok-clause-old
returns-in-Ok-clause-old c =
    let gone = rw (← c.self.view_is) at c.requires.absent in
    rw (
      ← c.self.view_is,
      lookup-only_first (same_key c.args.key) c.self.inside.recent.entries c.self.inside.older.entries gone,
    ) c.in-Ok.ensures.old

pub returns-in-Ok-clause-put : goal.returns-in-Ok-clause-put
returns-in-Ok-clause-put c =
    let gone = rw (← c.self.view_is) at c.requires.absent in
    let few = rw (← c.self.view_is) at c.requires.recent in
    let fits = rw (← c.self.view_is) at c.requires.room in
    rw (c.in-Ok.ensures.entries, ← c.self.view_is)
    (put-two c.args.key c.args.stored c.self.inside.recent.entries c.self.inside.older.entries
    c.self.inside.recent.cap _ gone few fits)

pub returns-clause-succeeds : goal.returns-clause-succeeds
returns-clause-succeeds c =
    λ some.
    let gone = rw (← c.self.view_is) at c.requires.absent in
    let there = rw (← c.self.view_is) at some in
    c.in-Err.ensures.succeeds
    (rw (lookup-only_first (same_key c.args.key) c.self.inside.recent.entries c.self.inside.older.entries gone)
    at there)
