use Rattle.std.proofs.Common.{◌≡◌, None, sym}
use Rattle.std.specs.Map.{lookup}
use Rattle.mc_wire.specs.SameKey.{same_key}
use Rattle.mc_store.proofs.Arrivals.{put_absent}
use Rattle.mc_store.proofs.TwoLists.{apart-absent, apart-moved, demoted-first, first_is, moved_whole}
use Rattle.mc_store.proofs.growing.GrowingMap.move_one.Goals as goal

pub invariant_of-self-2 : goal.invariant_of-self-2
invariant_of-self-2 c =
    let key = c.in-Some.key.now in
    let stored = c.in-Some.found.now in
    let recent = c.self.inside.recent.entries in
    let older = c.self.inside.older.entries in
    let first = sym c.in-Some.ensures in
    let none = apart-absent key recent older stored c.self.invariant (first_is key stored older first).found in
    let wide = c.widen.new.map in
    let still : lookup (same_key key) wide.entries ≡ None = rw c.widen.ensures.entries none in
    rw (
      c.demote-is_there.ensures.entries,
      c.pop_mru-moved.ensures.entries,
      c.in_ok-add.ensures.put,
      c.in_ok-copy.ensures.cases,
      c.in_ok-last.ensures.cases,
      put_absent same_key wide.entries wide.cap key stored still c.widen.ensures.room,
      c.widen.ensures.entries,
      demoted-first key stored recent,
    ) (apart-moved key stored recent older first c.len-older.ensures.valid.0 c.self.invariant)

pub returns-clause-entries : goal.returns-clause-entries
returns-clause-entries c =
    let key = c.in-Some.key.now in
    let stored = c.in-Some.found.now in
    let recent = c.self.inside.recent.entries in
    let older = c.self.inside.older.entries in
    let first = sym c.in-Some.ensures in
    let none = apart-absent key recent older stored c.self.invariant (first_is key stored older first).found in
    let wide = c.widen.new.map in
    let still : lookup (same_key key) wide.entries ≡ None = rw c.widen.ensures.entries none in
    rw (
      c.demote-is_there.ensures.entries,
      c.pop_mru-moved.ensures.entries,
      c.in_ok-add.ensures.put,
      c.in_ok-copy.ensures.cases,
      c.in_ok-last.ensures.cases,
      put_absent same_key wide.entries wide.cap key stored still c.widen.ensures.room,
      c.widen.ensures.entries,
      demoted-first key stored recent,
      ← c.self.view_is,
    ) (moved_whole key stored recent older first)

pub add-requires : goal.add-requires
add-requires c =
    let key = c.in-Some.key.now in
    let stored = c.in-Some.found.now in
    let recent = c.self.inside.recent.entries in
    let older = c.self.inside.older.entries in
    let first = sym c.in-Some.ensures in
    let none = apart-absent key recent older stored c.self.invariant (first_is key stored older first).found in
    rw (c.in_ok-copy.ensures.cases, c.widen.ensures.entries) none
