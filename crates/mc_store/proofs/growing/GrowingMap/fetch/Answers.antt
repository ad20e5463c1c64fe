use Rattle.std.proofs.Common.{◌≡◌, None, sym, ◌∙◌}
use Rattle.std.specs.Map.{lookup, remove_entry}
use Rattle.std.specs.Cmp.Lexicographic.{nat_list_eq_equiv}
use Rattle.mc_wire.specs.SameKey.{same_key}
use Rattle.mc_store.proofs.Arrivals.{put_absent}
use Rattle.mc_store.proofs.TwoLists.{apart-absent, apart-put, apart-removed_older, distinct-removed, lookup-second}
use Rattle.mc_store.proofs.TwoLists.{promoted-fetched}
use Rattle.mc_store.proofs.growing.GrowingMap.fetch.Goals as goal

pub invariant_of-self-2 : goal.invariant_of-self-2
invariant_of-self-2 c =
    let key = c.args.key.now in
    let stored = c.in-Some.found.now in
    let recent = c.self.inside.recent.entries in
    let older = c.self.inside.older.entries in
    let none = apart-absent key recent older stored c.self.invariant (sym c.in-Some.ensures) in
    let wide = c.widen.new.map in
    let still : lookup (same_key key) wide.entries ≡ None = rw c.widen.ensures.entries none in
    let gone = distinct-removed key older c.len-older.ensures.valid.0 in
    rw (
      c.in_ok-add.ensures.put,
      c.pop-moved.ensures.entries,
      c.in_ok-copy.ensures.cases,
      put_absent same_key wide.entries wide.cap key stored still c.widen.ensures.room,
      c.widen.ensures.entries,
    )
    (apart-put key stored recent (remove_entry (same_key key) older) gone
    (apart-removed_older (same_key key) recent older c.self.invariant))

pub returns-clause-recent : goal.returns-clause-recent
returns-clause-recent c =
    rw c.pop-moved.ensures.entries
    (distinct-removed c.args.key.now c.self.inside.older.entries c.len-older.ensures.valid.0)

pub returns-clause-promoted : goal.returns-clause-promoted
returns-clause-promoted c =
    let key = c.args.key.now in
    let stored = c.in-Some.found.now in
    let recent = c.self.inside.recent.entries in
    let older = c.self.inside.older.entries in
    let none = apart-absent key recent older stored c.self.invariant (sym c.in-Some.ensures) in
    let wide = c.widen.new.map in
    let still : lookup (same_key key) wide.entries ≡ None = rw c.widen.ensures.entries none in
    rw (
      c.in_ok-add.ensures.put,
      c.pop-moved.ensures.entries,
      c.in_ok-copy.ensures.cases,
      put_absent same_key wide.entries wide.cap key stored still c.widen.ensures.room,
      c.widen.ensures.entries,
      ← c.self.view_is,
    ) (promoted-fetched key stored recent older none (sym c.in-Some.ensures))

pub returns-clause-none : goal.returns-clause-none
returns-clause-none c =
    λ absent.
    let key = c.args.key.now in
    let stored = c.in-Some.found.now in
    let recent = c.self.inside.recent.entries in
    let older = c.self.inside.older.entries in
    let none = apart-absent key recent older stored c.self.invariant (sym c.in-Some.ensures) in
    let found = lookup-second (same_key key) recent older none ∙ sym c.in-Some.ensures in
    let absent' = rw (← c.self.view_is) at absent in
    absurd (cc (found, absent'))

pub returns-in_err-add-clause-none : goal.returns-in_err-add-clause-none
returns-in_err-add-clause-none c =
    λ absent.
    let key = c.args.key.now in
    let stored = c.in-Some.found.now in
    let recent = c.self.inside.recent.entries in
    let older = c.self.inside.older.entries in
    let none = apart-absent key recent older stored c.self.invariant (sym c.in-Some.ensures) in
    let found = lookup-second (same_key key) recent older none ∙ sym c.in-Some.ensures in
    let absent' = rw (← c.self.view_is) at absent in
    absurd (cc (found, absent'))

pub returns-clause-found : goal.returns-clause-found
returns-clause-found c =
    let key = c.args.key.now in
    let stored = c.in-Some.found.now in
    let recent = c.self.inside.recent.entries in
    let older = c.self.inside.older.entries in
    let none = apart-absent key recent older stored c.self.invariant (sym c.in-Some.ensures) in
    let wide = c.widen.new.map in
    let still : lookup (same_key key) wide.entries ≡ None = rw c.widen.ensures.entries none in
    rw (
      c.in_ok-add.ensures.put,
      c.pop-moved.ensures.entries,
      c.in_ok-copy.ensures.cases,
      put_absent same_key wide.entries wide.cap key stored still c.widen.ensures.room,
      c.widen.ensures.entries,
      ← c.self.view_is,
      nat_list_eq_equiv.refl key,
    ) (sym (lookup-second (same_key key) recent older none ∙ sym c.in-Some.ensures))

pub add-requires : goal.add-requires
add-requires c =
    let key = c.args.key.now in
    let stored = c.in-Some.found.now in
    let recent = c.self.inside.recent.entries in
    let older = c.self.inside.older.entries in
    let none = apart-absent key recent older stored c.self.invariant (sym c.in-Some.ensures) in
    rw (c.in_ok-copy.ensures.cases, c.widen.ensures.entries) none
