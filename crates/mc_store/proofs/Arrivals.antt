-- The items once one is put first.
use Rattle.std.proofs.Common.{◌≡◌, ℕ, ◌<◌, ◌≤◌, Bool, true, false}
use Rattle.std.proofs.Common.{cond, List, [], ◌∷◌, ◌++◌, Some, None}
use Rattle.std.proofs.Common.{refl, sym, ap, ◌∙◌, arith, map, length, ◌-◌, subst}
use Rattle.std.proofs.lemmas.List.{map-append, length-map, take_all}
use Rattle.std.specs.Option.{option_map}
use Rattle.std.specs.Map.{lookup, lookup_entry, remove_entry}
use Rattle.lru.specs.LruCache.{lru_cache, put_entries}
use Rattle.mc_cells.specs.declared.place.Place.{Place}
use Rattle.mc_cells.specs.Contents.{Contents, AreKept, HasRoom, HasValue, value_at, with_room}
use Rattle.mc_cells.specs.Kept.{KeptValue, cells_of, slots_of}
use Rattle.mc_cells.specs.Laws.{KeptIsThere}
use Rattle.mc_wire.specs.declared.TheConstants.{MAX_VALUE_LIMIT}
use Rattle.mc_item.specs.declared.item.Item.{Item}
use Rattle.mc_store.specs.declared.fields.Fields.{Fields}
use Rattle.mc_store.specs.declared.stored.Stored.{Stored}
use Rattle.mc_store.specs.internal.Stored.{fields_in, fields_of, item_with, place_in, shown}
use Rattle.mc_store.specs.internal.Listed.{ListedItem, listed_cost}
use Rattle.mc_store.specs.internal.Cached.{StoredEntry, shown_entry, shown_entries, kept_value}
use Rattle.mc_store.specs.internal.Cached.{AreCached, AreSmall, HasRoomForAll, IsSmall}
use Rattle.mc_store.proofs.Mapped.{IsDivided, divided}
use Rattle.mc_store.proofs.Mapped.{lookup_entry-mapped, remove_entry-mapped}
use Rattle.mc_store.proofs.Cached.{all_middle, same_items, same_room, AreLeft}
use Rattle.mc_store.proofs.Shown.{shown_none}
use Rattle.mc_store.proofs.Room.{room_for_one}

-- The items once one is put before them, under contents that keep its value too.
pub record ArePut (old new : Contents) (key : List ℕ) (stored : Stored) (value : List ℕ) (es : List StoredEntry)
    (budget : ℕ) : Type 0 where
  pub cached : AreCached ((key, stored) ∷ es) new budget
  pub items : shown_entries new es ≡ shown_entries old es
  pub here : value_at new (place_in stored) ≡ value

-- An item is put first where its value is kept beside those of the others.
pub put_first : KeptIsThere → (old new : Contents) (budget : ℕ) (key : List ℕ) (stored : Stored) (value : List ℕ)
    (es : List StoredEntry) → AreKept new ((place_in stored, value) ∷ map (kept_value old) es)
    → (place_in stored).len ≤ MAX_VALUE_LIMIT → AreSmall (map (kept_value old) es) → HasRoomForAll new budget
    → ArePut old new key stored value es budget
put_first there old new budget key stored value es kept small others room =
    let here = (there new [] (place_in stored) value (map (kept_value old) es) kept).here in
    let same = same_items there old new ((place_in stored, value) ∷ []) es kept in
    record {
      cached = record {
        kept = rw (here, same.values) kept;
        small = (small, rw same.values others);
        room = room;
      };
      items = same.items;
      here = here;
    }

-- Where one replaces another, the value of the other was there before its place is free.
pub replaced_there : KeptIsThere → (old mid : Contents) (test : List ℕ → Bool) (es : List StoredEntry)
    (was stored : Stored) (value : List ℕ) → lookup test es ≡ Some was
    → AreKept mid ((place_in stored, value) ∷ map (kept_value old) es) → HasValue mid (place_in was)
replaced_there there old mid test es was stored value found kept =
    let d = divided test es was found in
    let front = map (kept_value old) d.before in
    let back = map (kept_value old) d.after in
    let this : KeptValue = (place_in stored, value) in
    let whole : map (kept_value old) es ≡ front ++ kept_value old (d.key, was) ∷ back
    = ap (λ xs. map (kept_value old) xs) d.whole ∙ map-append (kept_value old) d.before ((d.key, was) ∷ d.after) in
    (there mid (this ∷ front) (place_in was) (value_at old (place_in was)) back
    (subst (λ (xs : List KeptValue). AreKept mid (this ∷ xs)) whole kept)).has

-- Once that place is free, the new one is before the others.
pub replaced : KeptIsThere → (old mid new : Contents) (budget : ℕ) (key : List ℕ) (test : List ℕ → Bool)
    (es : List StoredEntry) (was stored : Stored) (value : List ℕ) → lookup test es ≡ Some was
    → AreCached es old budget → AreKept mid ((place_in stored, value) ∷ map (kept_value old) es)
    → ((front back : List KeptValue) (value : List ℕ) → AreKept mid (front ++ (place_in was, value) ∷ back)
    → AreKept new (front ++ back))
    → (place_in stored).len ≤ MAX_VALUE_LIMIT → HasRoomForAll new budget
    → ArePut old new key stored value (remove_entry test es) budget
replaced there old mid new budget key test es was stored value found cached kept removed small room =
    let d = divided test es was found in
    let front = map (kept_value old) d.before in
    let back = map (kept_value old) d.after in
    let this : KeptValue = (place_in stored, value) in
    let whole : map (kept_value old) es ≡ front ++ kept_value old (d.key, was) ∷ back
    = ap (λ xs. map (kept_value old) xs) d.whole ∙ map-append (kept_value old) d.before ((d.key, was) ∷ d.after) in
    let rest : map (kept_value old) (remove_entry test es) ≡ front ++ back
    = ap (λ xs. map (kept_value old) xs) d.removed ∙ map-append (kept_value old) d.before d.after in
    let left : AreKept new (this ∷ (front ++ back))
    = removed (this ∷ front) back (value_at old (place_in was))
    (subst (λ (xs : List KeptValue). AreKept mid (this ∷ xs)) whole kept) in
    let others = (all_middle IsSmall front
    (kept_value old (d.key, was)) back (subst AreSmall whole cached.small)).1 in
    put_first there old new budget key stored value (remove_entry test es)
    (subst (λ (xs : List KeptValue). AreKept new (this ∷ xs)) (sym rest) left) small
    (subst AreSmall (sym rest) others) room

-- Once the place of a value that came is free again, the items are as they were.
pub taken_back : KeptIsThere → (old mid new : Contents) (budget : ℕ) (es : List StoredEntry) (place : Place)
    (value : List ℕ) → AreCached es old budget → AreKept mid ((place, value) ∷ map (kept_value old) es)
    → ((front back : List KeptValue) (value : List ℕ) → AreKept mid (front ++ (place, value) ∷ back)
    → AreKept new (front ++ back))
    → HasRoomForAll new budget → AreLeft old new es budget
taken_back there old mid new budget es place value cached kept removed room =
    let left = removed [] (map (kept_value old) es) value kept in
    let same = same_items there old new [] es left in
    record {
      cached = record {
        kept = rw same.values left;
        small = rw same.values cached.small;
        room = room;
      };
      items = same.items;
    }

-- Where no value is found no entry is.
lookup_entry-none : {X : Type 0} (test : List ℕ → Bool) (es : List (List ℕ × X)) → lookup test es ≡ None
    → lookup_entry test es ≡ None
lookup_entry-none test [] none = refl
lookup_entry-none {X} test (e ∷ es) none = by (test e.0) none (lookup_entry-none test es)
  where
    by : (b : Bool) → cond b (Some e.1) (lookup test es) ≡ None → (lookup test es ≡ None → lookup_entry test es ≡ None)
        → cond b (Some e) (lookup_entry test es) ≡ None
    by true found rest = absurd cc
    by false found rest = rest found

-- There an entry is put before all others, as there is room for it.
pub put_absent : {X : Type 0} (eq : List ℕ → List ℕ → Bool) (es : List (List ℕ × X)) (cap : ℕ) (key : List ℕ) (x : X)
    → lookup (eq key) es ≡ None → length es < cap → put_entries eq (lru_cache es cap) key x ≡ (key, x) ∷ es
put_absent eq es cap key x none few =
    rw (lookup_entry-none (eq key) es none) (ap (λ xs. (key, x) ∷ xs) (take_all (cap - 1) es (omega (arith, few))))

-- Where one is found it is put in its stead, before all.
pub put_present : {X : Type 0} (eq : List ℕ → List ℕ → Bool) (es : List (List ℕ × X)) (cap : ℕ) (key : List ℕ) (x : X)
    (e : List ℕ × X) → lookup_entry (eq key) es ≡ Some e
    → put_entries eq (lru_cache es cap) key x ≡ (e.0, x) ∷ remove_entry (eq key) es
put_present eq es cap key x e found = rw found refl

-- an item that is put is shown so
pub shown_put : (contents : Contents) (stored : Stored) (item : Item) → fields_of stored ≡ fields_in item
    → value_at contents (place_in stored) ≡ item.value → shown contents stored ≡ item
shown_put contents stored item fields value =
    ap (λ (f : Fields). item_with f (value_at contents (place_in stored))) fields
    ∙ ap (λ (v : List ℕ). item_with (fields_in item) v) value

-- what is shown once an item is put before all
pub shown_first : (old new : Contents) (eq : List ℕ → List ℕ → Bool) (es : List StoredEntry) (cap : ℕ)
    (key : List ℕ) (stored : Stored) (item : Item) → lookup (eq key) es ≡ None → length es < cap
    → shown new stored ≡ item → shown_entries new es ≡ shown_entries old es
    → shown_entries new (put_entries eq (lru_cache es cap) key stored)
    ≡ put_entries eq (lru_cache (shown_entries old es) cap) key item
shown_first old new eq es cap key stored item none few this others =
    let few' : length (shown_entries old es) < cap = rw (length-map es (shown_entry old)) few in
    ap (shown_entries new) (put_absent eq es cap key stored none few)
    ∙ ap (λ (i : Item). (key, i) ∷ shown_entries new es) this
    ∙ ap (λ (xs : List ListedItem). (key, item) ∷ xs) others
    ∙ sym (put_absent eq (shown_entries old es) cap key item (shown_none old (eq key) es none) few')

-- what is shown once an item is put in the stead of another
pub shown_instead : (old new : Contents) (eq : List ℕ → List ℕ → Bool) (es : List StoredEntry) (cap : ℕ)
    (key : List ℕ) (was stored : Stored) (item : Item) → (d : IsDivided (eq key) es was)
    → shown new stored ≡ item
    → shown_entries new (remove_entry (eq key) es) ≡ shown_entries old (remove_entry (eq key) es)
    → shown_entries new (put_entries eq (lru_cache es cap) key stored)
    ≡ put_entries eq (lru_cache (shown_entries old es) cap) key item
shown_instead old new eq es cap key was stored item d this others =
    let found : lookup_entry (eq key) (shown_entries old es) ≡ Some (d.key, shown old was)
    = lookup_entry-mapped (shown old) (eq key) es ∙ ap (option_map (shown_entry old)) d.entry in
    ap (shown_entries new) (put_present eq es cap key stored (d.key, was) d.entry)
    ∙ ap (λ (i : Item). (d.key, i) ∷ shown_entries new (remove_entry (eq key) es)) this
    ∙ ap (λ (xs : List ListedItem). (d.key, item) ∷ xs)
    (others ∙ sym (remove_entry-mapped (shown old) (eq key) es))
    ∙ sym (put_present eq (shown_entries old es) cap key item (d.key, shown old was) found)

-- the contents once a value came for an item
pub record HasCome (old new : Contents) (budget : ℕ) (es : List StoredEntry) (stored : Stored) (value : List ℕ)
    : Type 0 where
  pub kept : AreKept new ((place_in stored, value) ∷ map (kept_value old) es)
  pub small : (place_in stored).len ≤ MAX_VALUE_LIMIT
  pub room : HasRoomForAll new budget

-- A value comes where there is room for it.
pub has_come : (old new : Contents) (budget : ℕ) (es : List StoredEntry) (place : Place) (stored : Stored)
    (value : List ℕ) → AreCached es old budget → listed_cost (shown_entries old es) ≤ budget
    → ((kept : List KeptValue) → AreKept old kept → AreKept new ((place, value) ∷ kept)) → place.len ≡ length value
    → length value ≤ MAX_VALUE_LIMIT
    → (HasRoom old (cells_of (length value)) (slots_of (length value)) → new ≡ with_room new old)
    → place_in stored ≡ place → HasCome old new budget es stored value
has_come old new budget es place stored value cached fits keeps len small had_room at =
    let room = had_room (room_for_one old budget es (length value) cached fits) in
    record {
      kept = subst (λ (p : Place). AreKept new ((p, value) ∷ map (kept_value old) es)) (sym at)
          (keeps (map (kept_value old) es) cached.kept);
      small = subst (λ (p : Place). p.len ≤ MAX_VALUE_LIMIT) (sym at) (rw len small);
      room = same_room old new budget room cached.room;
    }
