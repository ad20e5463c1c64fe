-- A list of entries with another form of each value: what a map's steps do to the one, they do to the other.
use Rattle.std.proofs.Common.{◌≡◌, Bool, true, false, cond, List}
use Rattle.std.proofs.Common.{[], ◌∷◌, ◌++◌, Option, Some, None, refl, ap, map}
use Rattle.std.specs.Option.{option_map, option_map_or}
use Rattle.std.specs.Map.{lookup, lookup_entry, remove_entry, set_value}
use Rattle.lru.specs.LruCache.{promoted}

module _ {K X Y : Type 0} (f : X → Y) where
  -- an entry with the other form of its value
  abbrev pub entry_to : K × X → K × Y
  entry_to entry = (entry.0, f entry.1)

  abbrev pub mapped : List (K × X) → List (K × Y)
  mapped entries = map entry_to entries

  module _ (test : K → Bool) where
    -- A value that is looked up is the other form of the one that was there.
    pub lookup-mapped : (es : List (K × X)) → lookup test (mapped es) ≡ option_map f (lookup test es)
    lookup-mapped [] = refl
    lookup-mapped (e ∷ es) = by (test e.0) (lookup-mapped es)
      where
        by : (b : Bool) → lookup test (mapped es) ≡ option_map f (lookup test es)
            → cond b (Some (f e.1)) (lookup test (mapped es)) ≡ option_map f (cond b (Some e.1) (lookup test es))
        by true rest = refl
        by false rest = rest

    -- An entry that is looked up is the other form of the one that was there.
    pub lookup_entry-mapped : (es : List (K × X))
        → lookup_entry test (mapped es) ≡ option_map entry_to (lookup_entry test es)
    lookup_entry-mapped [] = refl
    lookup_entry-mapped (e ∷ es) = by (test e.0) (lookup_entry-mapped es)
      where
        by : (b : Bool) → lookup_entry test (mapped es) ≡ option_map entry_to (lookup_entry test es)
            → cond b (Some (entry_to e)) (lookup_entry test (mapped es))
            ≡ option_map entry_to (cond b (Some e) (lookup_entry test es))
        by true rest = refl
        by false rest = rest

    -- An entry is removed from both.
    pub remove_entry-mapped : (es : List (K × X)) → remove_entry test (mapped es) ≡ mapped (remove_entry test es)
    remove_entry-mapped [] = refl
    remove_entry-mapped (e ∷ es) = by (test e.0) (remove_entry-mapped es)
      where
        by : (b : Bool) → remove_entry test (mapped es) ≡ mapped (remove_entry test es)
            → cond b (mapped es) (entry_to e ∷ remove_entry test (mapped es))
            ≡ mapped (cond b es (e ∷ remove_entry test es))
        by true rest = refl
        by false rest = ap (λ xs. entry_to e ∷ xs) rest

    -- A value is replaced in both.
    pub set_value-mapped : (es : List (K × X)) (w : X) → set_value test (mapped es) (f w) ≡ mapped (set_value test es w)
    set_value-mapped [] w = refl
    set_value-mapped (e ∷ es) w = by (test e.0) (set_value-mapped es w)
      where
        by : (b : Bool) → set_value test (mapped es) (f w) ≡ mapped (set_value test es w)
            → cond b ((e.0, f w) ∷ mapped es) (entry_to e ∷ set_value test (mapped es) (f w))
            ≡ mapped (cond b ((e.0, w) ∷ es) (e ∷ set_value test es w))
        by true rest = refl
        by false rest = ap (λ xs. entry_to e ∷ xs) rest

    -- An entry is made the first in both.
    pub promoted-mapped : (es : List (K × X)) → promoted test (mapped es) ≡ mapped (promoted test es)
    promoted-mapped es =
        rw (lookup_entry-mapped es, remove_entry-mapped es) (by (lookup_entry test es))
      where
        by : (found : Option (K × X)) →
            option_map_or (λ e. e ∷ mapped (remove_entry test es)) (option_map entry_to found) (mapped es)
            ≡ mapped (option_map_or (λ e. e ∷ remove_entry test es) found es)
        by None = refl
        by (Some e) = refl

-- An entry that is found divides the entries: what is before it, and what is after it.
pub record IsDivided {K X : Type 0} (test : K → Bool) (es : List (K × X)) (value : X) : Type 0 where
  pub before : List (K × X)
  pub key : K
  pub after : List (K × X)
  pub passes : test key ≡ true
  pub whole : es ≡ before ++ (key, value) ∷ after
  pub entry : lookup_entry test es ≡ Some (key, value)
  pub removed : remove_entry test es ≡ before ++ after

-- Where a value is found there is such an entry.
pub divided : {K X : Type 0} (test : K → Bool) (es : List (K × X)) (value : X) → lookup test es ≡ Some value
    → IsDivided test es value
divided test [] value found = absurd (cc)
divided {K} {X} test (e ∷ es) value found = by (test e.0) refl found (divided test es value)
  where
    by : (b : Bool) → test e.0 ≡ b → cond b (Some e.1) (lookup test es) ≡ Some value
        → (lookup test es ≡ Some value → IsDivided test es value) → IsDivided test (e ∷ es) value
    by true passes here go =
        let same : e.1 ≡ value = cc (here) in
        record {
          before = [];
          key = e.0;
          after = es;
          passes = passes;
          whole = rw (← same) refl;
          entry = rw (passes, ← same) refl;
          removed = rw passes refl;
        }
    by false passes here go =
        let rest = go here in
        record {
          before = e ∷ rest.before;
          key = rest.key;
          after = rest.after;
          passes = rest.passes;
          whole = ap (λ xs. e ∷ xs) rest.whole;
          entry = rw passes rest.entry;
          removed = rw passes (ap (λ xs. e ∷ xs) rest.removed);
        }

-- One that is found and made the first is before all others.
pub promoted_found : {K X : Type 0} (test : K → Bool) (es : List (K × X)) (value : X) (d : IsDivided test es value)
    → promoted test es ≡ (d.key, value) ∷ (d.before ++ d.after)
promoted_found test es value d = rw (d.entry, d.removed) refl

-- It is found there too.
pub lookup-promoted : {K X : Type 0} (test : K → Bool) (es : List (K × X)) (value : X) → lookup test es ≡ Some value
    → lookup test (promoted test es) ≡ Some value
lookup-promoted test es value found =
    let d = divided test es value found in
    rw (promoted_found test es value d, d.passes) refl
