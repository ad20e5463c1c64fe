use Rattle.std.proofs.Common.{refl, sym}
use Rattle.std.specs.Map.{remove_entry}
use Rattle.mc_wire.specs.SameKey.{same_key}
use Rattle.mc_store.proofs.Cached.{none_removed}
use Rattle.mc_store.proofs.TwoLists.{apart-removed, apart-removed_older, lookup-first, lookup-second}
use Rattle.mc_store.proofs.TwoLists.{remove-first, remove-second}
use Rattle.mc_store.proofs.growing.GrowingMap.pop.Goals as goal

pub invariant_of-self : goal.invariant_of-self
invariant_of-self c =
    rw c.pop.ensures.entries
    (apart-removed (same_key c.args.key.now) c.self.inside.recent.entries c.self.inside.older.entries
    c.self.invariant)

pub invariant_of-self-in-None : goal.invariant_of-self-in-None
invariant_of-self-in-None c =
    let test = same_key c.args.key.now in
    let recent = c.self.inside.recent.entries in
    let older = c.self.inside.older.entries in
    rw (c.pop.ensures.entries, c.pop-in-None.ensures.entries)
    (apart-removed_older test (remove_entry test recent) older (apart-removed test recent older c.self.invariant))

pub returns-in-Some-clause-value : goal.returns-in-Some-clause-value
returns-in-Some-clause-value c =
    rw (
      ← c.self.view_is,
      lookup-first (same_key c.args.key.now) c.self.inside.recent.entries c.self.inside.older.entries
          c.in-Some.stored (sym c.in-Some.ensures.value),
    ) refl

pub returns-in-Some-clause-entries : goal.returns-in-Some-clause-entries
returns-in-Some-clause-entries c =
    rw (
      c.pop.ensures.entries,
      ← c.self.view_is,
      remove-first (same_key c.args.key.now) c.self.inside.recent.entries c.self.inside.older.entries
          c.in-Some.stored (sym c.in-Some.ensures.value),
    ) refl

pub returns-in-None-clause-value : goal.returns-in-None-clause-value
returns-in-None-clause-value c =
    rw (
      ← c.self.view_is,
      lookup-second (same_key c.args.key.now) c.self.inside.recent.entries c.self.inside.older.entries
          (sym c.in-None.ensures.value),
    ) c.pop-in-None.ensures.value

pub returns-in-None-clause-entries : goal.returns-in-None-clause-entries
returns-in-None-clause-entries c =
    let test = same_key c.args.key.now in
    let none = sym c.in-None.ensures.value in
    rw (
      c.pop.ensures.entries,
      c.pop-in-None.ensures.entries,
      ← c.self.view_is,
      remove-second test c.self.inside.recent.entries c.self.inside.older.entries none,
      none_removed test c.self.inside.recent.entries none,
    ) refl
