-- What stays of the items when values are kept or removed.
use Rattle.std.proofs.Common.{◌≡◌, ℕ, ◌+◌, ◌≤◌, Bool, true, false}
use Rattle.std.proofs.Common.{cond, List, [], ◌∷◌, ◌++◌, Some, None}
use Rattle.std.proofs.Common.{refl, sym, ap, ◌∙◌, arith, map, length, ◌-◌, subst, take, append-nil}
use Rattle.std.specs.Prelude.{slice_get}
use Rattle.std.proofs.lemmas.List.{append_assoc, map-append, take_all, take_more}
use Rattle.std.proofs.lemmas.Option.{get_or_from_slice_get, slice_get_within}
use Rattle.std.specs.List.{AllByRecursion}
use Rattle.std.specs.Map.{lookup, remove_entry, set_value}
use Rattle.lru.specs.LruCache.{last_entry, promoted}
use Rattle.mc_cells.specs.declared.place.Place.{Place}
use Rattle.mc_cells.specs.Contents.{Contents, AreKept, HasValue, value_at, with_room}
use Rattle.mc_cells.specs.Kept.{KeptValue, IsSpelled}
use Rattle.mc_cells.specs.Laws.{KeptIsThere, OrderIsFree}
use Rattle.mc_wire.specs.declared.TheConstants.{MAX_VALUE_LIMIT}
use Rattle.mc_store.specs.declared.stored.Stored.{Stored}
use Rattle.mc_store.specs.internal.Stored.{place_in}
use Rattle.mc_store.specs.internal.Cached.{StoredEntry, shown_entry, shown_entries, kept_value}
use Rattle.mc_store.specs.internal.Cached.{AreCached, AreSmall, HasRoomForAll, IsSmall}
use Rattle.mc_store.proofs.Mapped.{divided, lookup-promoted, promoted_found}

-- the items and their values are the same under other contents
pub record AreSame (old new : Contents) (es : List StoredEntry) : Type 0 where
  pub values : map (kept_value new) es ≡ map (kept_value old) es
  pub items : shown_entries new es ≡ shown_entries old es

-- Where the values that items had are kept, the items are the same.
pub same_items : KeptIsThere → (old new : Contents) (before : List KeptValue) (es : List StoredEntry)
    → AreKept new (before ++ map (kept_value old) es) → AreSame old new es
same_items there old new before [] kept = record { values = refl; items = refl }
same_items there old new before (e ∷ es) kept =
    let rest = map (kept_value old) es in
    let here = (there new before (place_in e.1) (value_at old (place_in e.1)) rest kept).here in
    let others = same_items there old new (before ++ kept_value old e ∷ []) es
    (rw (append_assoc before (kept_value old e ∷ []) rest) kept) in
    record {
      values = rw here (ap (λ xs. kept_value old e ∷ xs) others.values);
      items = rw here (ap (λ xs. shown_entry old e ∷ xs) others.items);
    }

-- What is so of all is so of the one in the middle, and of the others.
pub all_middle : {X : Type 0} (P : X → Type 0) (before : List X) (x : X) (after : List X)
    → AllByRecursion P (before ++ x ∷ after) → P x × AllByRecursion P (before ++ after)
all_middle P [] x after all = all
all_middle P (y ∷ before) x after all =
    let rest = all_middle P before x after all.1 in
    (rest.0, (all.0, rest.1))

-- Where the contents have as much room as before there is room for all.
pub same_room : (old new : Contents) (budget : ℕ) → new ≡ with_room new old → HasRoomForAll old budget
    → HasRoomForAll new budget
same_room old new budget same room =
    let cells : new.cell_room ≡ old.cell_room = ap (λ (x : Contents). x.cell_room) same in
    let long : new.long_room ≡ old.long_room = ap (λ (x : Contents). x.long_room) same in
    record {
      cells = rw cells room.cells;
      long = rw long room.long;
      few_cells = rw cells room.few_cells;
      few_long = rw long room.few_long;
    }

-- The items without one of them, under contents that have its place free.
pub record AreLeft (old new : Contents) (es : List StoredEntry) (budget : ℕ) : Type 0 where
  pub cached : AreCached es new budget
  pub items : shown_entries new es ≡ shown_entries old es

-- Once an item's place is free, the others are as they were.
pub taken_out : KeptIsThere → (old new : Contents) (budget : ℕ) (before : List StoredEntry) (e : StoredEntry)
    (after : List StoredEntry) → AreCached (before ++ e ∷ after) old budget
    → ((front back : List KeptValue) (value : List ℕ) → AreKept old (front ++ (place_in e.1, value) ∷ back)
    → AreKept new (front ++ back))
    → new ≡ with_room new old → AreLeft old new (before ++ after) budget
taken_out there old new budget before e after cached removed room =
    let front = map (kept_value old) before in
    let back = map (kept_value old) after in
    let kept : AreKept old (front ++ kept_value old e ∷ back)
    = rw (map-append (kept_value old) before (e ∷ after)) at cached.kept in
    let small : AreSmall (front ++ kept_value old e ∷ back)
    = rw (map-append (kept_value old) before (e ∷ after)) at cached.small in
    let others = all_middle IsSmall front (kept_value old e) back small in
    let left : AreKept new (map (kept_value old) (before ++ after))
    = rw (map-append (kept_value old) before after) (removed front back (value_at old (place_in e.1)) kept) in
    let same = same_items there old new [] (before ++ after) left in
    record {
      cached = record {
        kept = rw same.values left;
        small = rw (same.values, map-append (kept_value old) before after) others.1;
        room = same_room old new budget room cached.room;
      };
      items = same.items;
    }

-- the value of an item that is cached is at its place, and as long as the place says
pub record IsFound (contents : Contents) (stored : Stored) : Type 0 where
  pub has : HasValue contents (place_in stored)
  pub len : length (value_at contents (place_in stored)) ≡ (place_in stored).len
  pub small : (place_in stored).len ≤ MAX_VALUE_LIMIT

-- That of one in the middle is.
pub middle_found : KeptIsThere → (contents : Contents) (budget : ℕ) (before : List StoredEntry) (e : StoredEntry)
    (after : List StoredEntry) → AreCached (before ++ e ∷ after) contents budget → IsFound contents e.1
middle_found there contents budget before e after cached =
    let front = map (kept_value contents) before in
    let back = map (kept_value contents) after in
    let kept : AreKept contents (front ++ kept_value contents e ∷ back)
    = rw (map-append (kept_value contents) before (e ∷ after)) at cached.kept in
    let small : AreSmall (front ++ kept_value contents e ∷ back)
    = rw (map-append (kept_value contents) before (e ∷ after)) at cached.small in
    let spelled = (all_middle (IsSpelled contents.slots) front (kept_value contents e) back kept.cells.spelled).0 in
    record {
      has = (there contents front (place_in e.1) (value_at contents (place_in e.1)) back kept).has;
      len = spelled.len;
      small = (all_middle IsSmall front (kept_value contents e) back small).0;
    }

-- That of one that is looked up is.
pub item_found : KeptIsThere → (contents : Contents) (budget : ℕ) (test : List ℕ → Bool) (es : List StoredEntry)
    (stored : Stored) → lookup test es ≡ Some stored → AreCached es contents budget → IsFound contents stored
item_found there contents budget test es stored found cached =
    let d = divided test es stored found in
    middle_found there contents budget d.before (d.key, stored) d.after (rw d.whole at cached)

-- The values stay kept where an item's fields change.
values_set : (contents : Contents) (test : List ℕ → Bool) (es : List StoredEntry) (stored new : Stored)
    → lookup test es ≡ Some stored → place_in new ≡ place_in stored
    → map (kept_value contents) (set_value test es new) ≡ map (kept_value contents) es
values_set contents test [] stored new found same = refl
values_set contents test (e ∷ es) stored new found same = by (test e.0) found (values_set contents test es stored new)
  where
    by : (b : Bool) → cond b (Some e.1) (lookup test es) ≡ Some stored
        → (lookup test es ≡ Some stored → place_in new ≡ place_in stored
        → map (kept_value contents) (set_value test es new) ≡ map (kept_value contents) es)
        → map (kept_value contents) (cond b ((e.0, new) ∷ es) (e ∷ set_value test es new))
        ≡ map (kept_value contents) (e ∷ es)
    by true here rest =
        let here' : e.1 ≡ stored = cc (here) in
        let at : place_in new ≡ place_in e.1 = same ∙ ap place_in (sym here') in
        ap (λ (place : Place). (place, value_at contents place) ∷ map (kept_value contents) es) at
    by false here rest = ap (λ xs. kept_value contents e ∷ xs) (rest here same)

-- The items stay cached where one's fields change.
pub cached_set : (contents : Contents) (budget : ℕ) (test : List ℕ → Bool) (es : List StoredEntry)
    (stored new : Stored) → lookup test es ≡ Some stored → place_in new ≡ place_in stored
    → AreCached es contents budget → AreCached (set_value test es new) contents budget
cached_set contents budget test es stored new found same cached =
    let values = values_set contents test es stored new found same in
    record {
      kept = rw values cached.kept;
      small = rw values cached.small;
      room = cached.room;
    }

-- What is so of the one in the middle and of the others is so of all, with that one first.
all_first : {X : Type 0} (P : X → Type 0) (before : List X) (x : X) (after : List X)
    → AllByRecursion P (before ++ x ∷ after) → AllByRecursion P (x ∷ (before ++ after))
all_first P before x after all = all_middle P before x after all

-- The items stay cached where one is made the first.
pub cached_promoted : OrderIsFree → (contents : Contents) (budget : ℕ) (test : List ℕ → Bool) (es : List StoredEntry)
    (stored : Stored) → lookup test es ≡ Some stored → AreCached es contents budget
    → AreCached (promoted test es) contents budget
cached_promoted order contents budget test es stored found cached =
    let d = divided test es stored found in
    let this = kept_value contents (d.key, stored) in
    let front = map (kept_value contents) d.before in
    let back = map (kept_value contents) d.after in
    let whole : map (kept_value contents) es ≡ front ++ this ∷ back
    = ap (λ xs. map (kept_value contents) xs) d.whole
    ∙ map-append (kept_value contents) d.before ((d.key, stored) ∷ d.after) in
    let first : map (kept_value contents) (promoted test es) ≡ this ∷ (front ++ back)
    = ap (λ xs. map (kept_value contents) xs) (promoted_found test es stored d)
    ∙ ap (λ xs. this ∷ xs) (map-append (kept_value contents) d.before d.after) in
    record {
      kept = rw first (order contents front this back (rw whole at cached.kept));
      small = rw first (all_first IsSmall front this back (rw whole at cached.small));
      room = cached.room;
    }

-- The items stay cached where one is made the first and its fields change.
pub cached_used : OrderIsFree → (contents : Contents) (budget : ℕ) (test : List ℕ → Bool) (es : List StoredEntry)
    (stored new : Stored) → lookup test es ≡ Some stored → place_in new ≡ place_in stored
    → AreCached es contents budget → AreCached (set_value test (promoted test es) new) contents budget
cached_used order contents budget test es stored new found place cached =
    cached_set contents budget test (promoted test es) stored new (lookup-promoted test es stored found) place
    (cached_promoted order contents budget test es stored found cached)

-- The least recently used item is the last one.
pub last_divided : {X : Type 0} (es : List X) (e : X) → slice_get es (length es - 1) ≡ Some e
    → es ≡ take (length es - 1) es ++ e ∷ []
last_divided es e found =
    let n = length es - 1 in
    let within = slice_get_within es n e found in
    let whole : n + 1 ≡ length es = omega (arith, within) in
    sym (take_all (n + 1) es (omega (arith, whole))) ∙ take_more es n e within
    ∙ ap (λ x. take n es ++ x ∷ []) (get_or_from_slice_get es n e e found)

-- The value of the last item is at its place.
pub last_found : KeptIsThere → (contents : Contents) (budget : ℕ) (es : List StoredEntry) (e : StoredEntry)
    → last_entry es ≡ Some e → AreCached es contents budget → IsFound contents e.1
last_found there contents budget es e found cached =
    middle_found there contents budget (take (length es - 1) es) e []
    (subst (λ (xs : List StoredEntry). AreCached xs contents budget) (last_divided es e found) cached)

-- Once its place is free, the others are as they were.
pub last_out : KeptIsThere → (old new : Contents) (budget : ℕ) (es : List StoredEntry) (e : StoredEntry)
    → last_entry es ≡ Some e → AreCached es old budget
    → ((front back : List KeptValue) (value : List ℕ) → AreKept old (front ++ (place_in e.1, value) ∷ back)
    → AreKept new (front ++ back))
    → new ≡ with_room new old → AreLeft old new (take (length es - 1) es) budget
last_out there old new budget es e found cached removed room =
    let front = take (length es - 1) es in
    subst (λ (xs : List StoredEntry). AreLeft old new xs budget) (append-nil front)
    (taken_out there old new budget front e []
    (subst (λ (xs : List StoredEntry). AreCached xs old budget) (last_divided es e found) cached) removed room)

-- Once the place of an item that is looked up is free, the others are as they were.
pub item_out : KeptIsThere → (old new : Contents) (budget : ℕ) (test : List ℕ → Bool) (es : List StoredEntry)
    (stored : Stored) → lookup test es ≡ Some stored → AreCached es old budget
    → ((front back : List KeptValue) (value : List ℕ) → AreKept old (front ++ (place_in stored, value) ∷ back)
    → AreKept new (front ++ back))
    → new ≡ with_room new old → AreLeft old new (remove_entry test es) budget
item_out there old new budget test es stored found cached removed room =
    let d = divided test es stored found in
    rw d.removed
    (taken_out there old new budget d.before (d.key, stored) d.after (rw d.whole at cached) removed room)

-- Where none is found none is removed.
pub none_removed : {X : Type 0} (test : List ℕ → Bool) (es : List (List ℕ × X)) → lookup test es ≡ None
    → remove_entry test es ≡ es
none_removed test [] none = refl
none_removed {X} test (e ∷ es) none = by (test e.0) none (none_removed test es)
  where
    by : (b : Bool) → cond b (Some e.1) (lookup test es) ≡ None → (lookup test es ≡ None → remove_entry test es ≡ es)
        → cond b es (e ∷ remove_entry test es) ≡ e ∷ es
    by true found rest = absurd cc
    by false found rest = ap (λ xs. e ∷ xs) (rest found)
