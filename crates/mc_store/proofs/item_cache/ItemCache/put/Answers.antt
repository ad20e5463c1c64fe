use Rattle.std.proofs.Common.{◌≡◌, List, ap, length, map, refl, sym, ◌∙◌}
use Rattle.std.proofs.lemmas.Bool.{false≢true}
use Rattle.mc_wire.specs.SameKey.{same_key}
use Rattle.mc_store.specs.internal.Cached.{kept_value}
use Rattle.mc_store.specs.internal.Growing.{entries_of}
use Rattle.mc_store.specs.internal.Listed.{ListedItem}
use Rattle.mc_store.specs.internal.Stored.{place_in}
use Rattle.mc_store.proofs.Cached.{item_found, same_room}
use Rattle.mc_store.proofs.Shown.{few_kept, items_of, shown_found, shown_none}
use Rattle.mc_store.proofs.Room.{room_for_one}
use Rattle.mc_store.proofs.Arrivals.{has_come, put_absent, put_first, put_present, replaced, replaced_there}
use Rattle.mc_store.proofs.Arrivals.{shown_first, shown_instead, shown_put, taken_back}
use Rattle.mc_store.proofs.Mapped.{divided}
use Rattle.mc_store.proofs.item_cache.ItemCache.put.Goals as goal

pub invariant_of-self : goal.invariant_of-self
invariant_of-self c =
    let room = room_for_one c.self.inside.cells c.self.inside.budget (entries_of c.self.inside.cache)
    (length c.into_bytes.result) c.self.invariant (rw (← c.self.view_is) at c.requires.fits) in
    absurd (false≢true (c.in_default.ensures.succeeds room))

pub invariant_of-self-in-Ok-None : goal.invariant_of-self-in-Ok-None
invariant_of-self-in-Ok-None c =
    let come = has_come c.self.inside.cells c.keep.new.self c.self.inside.budget (entries_of c.self.inside.cache)
    c.in-Ok.place c.new.result c.into_bytes.result c.self.invariant (rw (← c.self.view_is) at c.requires.fits)
    c.in-Ok.ensures.kept c.in-Ok.ensures.len
    (rw c.into_bytes.ensures.value c.into_bytes.ensures.within) c.in-Ok.ensures.had_room
    c.new.ensures.place in
    let first = put_first c.every_kept.ensures.there c.self.inside.cells c.keep.new.self c.self.inside.budget
    c.args.key c.new.result c.into_bytes.result (entries_of c.self.inside.cache) come.kept come.small
    c.self.invariant.small come.room in
    let none = sym c.in-Ok-None.ensures.old ∙ c.in-Ok-None.field-0-is in
    let few = few_kept c.self.inside.cells (entries_of c.self.inside.cache) c.self.inside.cache.cap
    (rw (← c.self.view_is) at c.requires.room) in
    rw (
      c.in-Ok-None.ensures.put,
      put_absent same_key (entries_of c.self.inside.cache) c.self.inside.cache.cap c.args.key c.new.result none few,
    ) first.cached

pub remove-requires : goal.remove-requires
remove-requires c =
    let come = has_come c.self.inside.cells c.keep.new.self c.self.inside.budget (entries_of c.self.inside.cache)
    c.in-Ok.place c.new.result c.into_bytes.result c.self.invariant (rw (← c.self.view_is) at c.requires.fits)
    c.in-Ok.ensures.kept c.in-Ok.ensures.len
    (rw c.into_bytes.ensures.value c.into_bytes.ensures.within) c.in-Ok.ensures.had_room
    c.new.ensures.place in
    let test = same_key c.args.key in
    let es = entries_of c.self.inside.cache in
    let was = c.in-Ok-Some.old in
    let found = sym c.in-Ok-Some.ensures.old ∙ c.in-Ok-Some.field-0-is in
    let freed : c.place-freed.result ≡ place_in was = c.place-freed.ensures ∙ ap place_in c.in-Ok-Some.old-is in
    rw freed
    (replaced_there c.every_kept.ensures.there c.self.inside.cells c.keep.new.self test es was c.new.result
    c.into_bytes.result found come.kept)

pub invariant_of-self-in-Ok-Some : goal.invariant_of-self-in-Ok-Some
invariant_of-self-in-Ok-Some c =
    let come = has_come c.self.inside.cells c.keep.new.self c.self.inside.budget (entries_of c.self.inside.cache)
    c.in-Ok.place c.new.result c.into_bytes.result c.self.invariant (rw (← c.self.view_is) at c.requires.fits)
    c.in-Ok.ensures.kept c.in-Ok.ensures.len
    (rw c.into_bytes.ensures.value c.into_bytes.ensures.within) c.in-Ok.ensures.had_room
    c.new.ensures.place in
    let test = same_key c.args.key in
    let es = entries_of c.self.inside.cache in
    let was = c.in-Ok-Some.old in
    let found = sym c.in-Ok-Some.ensures.old ∙ c.in-Ok-Some.field-0-is in
    let freed : c.place-freed.result ≡ place_in was = c.place-freed.ensures ∙ ap place_in c.in-Ok-Some.old-is in
    let d = divided test es was found in
    let removed = rw freed at c.remove.ensures.removed in
    let instead = replaced c.every_kept.ensures.there c.self.inside.cells c.keep.new.self c.remove.new.self
    c.self.inside.budget d.key test es was c.new.result c.into_bytes.result found c.self.invariant come.kept
    (λ front back value kept. removed front back value kept) come.small
    (same_room c.keep.new.self c.remove.new.self c.self.inside.budget c.remove.ensures.room come.room) in
    rw (
      c.in-Ok-Some.ensures.put,
      put_present same_key es c.self.inside.cache.cap c.args.key c.new.result (d.key, was) d.entry,
    ) instead.cached

pub invariant_of-self-in-Err : goal.invariant_of-self-in-Err
invariant_of-self-in-Err c =
    let come = has_come c.self.inside.cells c.keep.new.self c.self.inside.budget (entries_of c.self.inside.cache)
    c.in-Ok.place c.new.result c.into_bytes.result c.self.invariant (rw (← c.self.view_is) at c.requires.fits)
    c.in-Ok.ensures.kept c.in-Ok.ensures.len
    (rw c.into_bytes.ensures.value c.into_bytes.ensures.within) c.in-Ok.ensures.had_room
    c.new.ensures.place in
    let back = taken_back c.every_kept.ensures.there c.self.inside.cells c.keep.new.self c.remove-in-Err.new.self
    c.self.inside.budget (entries_of c.self.inside.cache) c.in-Ok.place c.into_bytes.result c.self.invariant
    (c.in-Ok.ensures.kept (map (kept_value c.self.inside.cells) (entries_of c.self.inside.cache))
    c.self.invariant.kept) (λ front back value kept. c.remove-in-Err.ensures.removed front back value kept)
    (same_room c.keep.new.self c.remove-in-Err.new.self c.self.inside.budget c.remove-in-Err.ensures.room come.room) in
    rw c.in-Err.ensures.err back.cached

pub returns-in-Ok-None-clause-old : goal.returns-in-Ok-None-clause-old
returns-in-Ok-None-clause-old c =
    rw (
      ← c.self.view_is,
      shown_none c.self.inside.cells (same_key c.args.key) (entries_of c.self.inside.cache)
          (sym c.in-Ok-None.ensures.old ∙ c.in-Ok-None.field-0-is),
    ) refl

pub returns-in-Ok-None-clause-put : goal.returns-in-Ok-None-clause-put
returns-in-Ok-None-clause-put c =
    let come = has_come c.self.inside.cells c.keep.new.self c.self.inside.budget (entries_of c.self.inside.cache)
    c.in-Ok.place c.new.result c.into_bytes.result c.self.invariant (rw (← c.self.view_is) at c.requires.fits)
    c.in-Ok.ensures.kept c.in-Ok.ensures.len
    (rw c.into_bytes.ensures.value c.into_bytes.ensures.within) c.in-Ok.ensures.had_room
    c.new.ensures.place in
    let first = put_first c.every_kept.ensures.there c.self.inside.cells c.keep.new.self c.self.inside.budget
    c.args.key c.new.result c.into_bytes.result (entries_of c.self.inside.cache) come.kept come.small
    c.self.invariant.small come.room in
    let none = sym c.in-Ok-None.ensures.old ∙ c.in-Ok-None.field-0-is in
    let few = few_kept c.self.inside.cells (entries_of c.self.inside.cache) c.self.inside.cache.cap
    (rw (← c.self.view_is) at c.requires.room) in
    let this = shown_put c.keep.new.self c.new.result c.args.item (c.new.ensures.fields ∙ c.of-fields.ensures)
    (first.here ∙ c.into_bytes.ensures.value) in
    rw (c.in-Ok-None.ensures.put, c.put.ensures.cap, ← c.self.view_is)
    (ap (λ (xs : List ListedItem). items_of xs c.self.inside.cache.cap c.self.inside.budget)
    (shown_first c.self.inside.cells c.keep.new.self same_key (entries_of c.self.inside.cache) c.self.inside.cache.cap
    c.args.key c.new.result c.args.item none few this first.items))

pub returns-in-Ok-Some-clause-old : goal.returns-in-Ok-Some-clause-old
returns-in-Ok-Some-clause-old c =
    let test = same_key c.args.key in
    let es = entries_of c.self.inside.cache in
    let was = c.in-Ok-Some.old in
    let found = sym c.in-Ok-Some.ensures.old ∙ c.in-Ok-Some.field-0-is in
    let freed : c.place-freed.result ≡ place_in was = c.place-freed.ensures ∙ ap place_in c.in-Ok-Some.old-is in
    let item = item_found c.every_kept.ensures.there c.self.inside.cells c.self.inside.budget test es was found
    c.self.invariant in
    rw (
      c.len.ensures,
      freed,
      ← c.self.view_is,
      shown_found c.self.inside.cells test es was found,
      item.len,
    ) refl

pub returns-in-Ok-Some-clause-put : goal.returns-in-Ok-Some-clause-put
returns-in-Ok-Some-clause-put c =
    let come = has_come c.self.inside.cells c.keep.new.self c.self.inside.budget (entries_of c.self.inside.cache)
    c.in-Ok.place c.new.result c.into_bytes.result c.self.invariant (rw (← c.self.view_is) at c.requires.fits)
    c.in-Ok.ensures.kept c.in-Ok.ensures.len
    (rw c.into_bytes.ensures.value c.into_bytes.ensures.within) c.in-Ok.ensures.had_room
    c.new.ensures.place in
    let test = same_key c.args.key in
    let es = entries_of c.self.inside.cache in
    let was = c.in-Ok-Some.old in
    let found = sym c.in-Ok-Some.ensures.old ∙ c.in-Ok-Some.field-0-is in
    let freed : c.place-freed.result ≡ place_in was = c.place-freed.ensures ∙ ap place_in c.in-Ok-Some.old-is in
    let d = divided test es was found in
    let removed = rw freed at c.remove.ensures.removed in
    let instead = replaced c.every_kept.ensures.there c.self.inside.cells c.keep.new.self c.remove.new.self
    c.self.inside.budget d.key test es was c.new.result c.into_bytes.result found c.self.invariant come.kept
    (λ front back value kept. removed front back value kept) come.small
    (same_room c.keep.new.self c.remove.new.self c.self.inside.budget c.remove.ensures.room come.room) in
    let this = shown_put c.remove.new.self c.new.result c.args.item (c.new.ensures.fields ∙ c.of-fields.ensures)
    (instead.here ∙ c.into_bytes.ensures.value) in
    rw (c.in-Ok-Some.ensures.put, c.put.ensures.cap, ← c.self.view_is)
    (ap (λ (xs : List ListedItem). items_of xs c.self.inside.cache.cap c.self.inside.budget)
    (shown_instead c.self.inside.cells c.remove.new.self same_key es c.self.inside.cache.cap c.args.key was
    c.new.result c.args.item d this instead.items))

pub returns-in-Err-clause-err : goal.returns-in-Err-clause-err
returns-in-Err-clause-err c =
    let come = has_come c.self.inside.cells c.keep.new.self c.self.inside.budget (entries_of c.self.inside.cache)
    c.in-Ok.place c.new.result c.into_bytes.result c.self.invariant (rw (← c.self.view_is) at c.requires.fits)
    c.in-Ok.ensures.kept c.in-Ok.ensures.len
    (rw c.into_bytes.ensures.value c.into_bytes.ensures.within) c.in-Ok.ensures.had_room
    c.new.ensures.place in
    let back = taken_back c.every_kept.ensures.there c.self.inside.cells c.keep.new.self c.remove-in-Err.new.self
    c.self.inside.budget (entries_of c.self.inside.cache) c.in-Ok.place c.into_bytes.result c.self.invariant
    (c.in-Ok.ensures.kept (map (kept_value c.self.inside.cells) (entries_of c.self.inside.cache))
    c.self.invariant.kept) (λ front back value kept. c.remove-in-Err.ensures.removed front back value kept)
    (same_room c.keep.new.self c.remove-in-Err.new.self c.self.inside.budget c.remove-in-Err.ensures.room come.room) in
    rw (c.in-Err.ensures.err, c.put.ensures.cap, ← c.self.view_is)
    (ap (λ (xs : List ListedItem). items_of xs c.self.inside.cache.cap c.self.inside.budget) back.items)
