-- Two lists of entries, one behind the other, none of whose keys is in both: what a map's steps do to the whole, they
-- do to one of the two.
use Rattle.std.proofs.Common.{◌≡◌, ℕ, suc, ◌-◌, ◌<◌, Bool, true, false, cond, List}
use Rattle.std.proofs.Common.{[], ◌∷◌, ◌++◌, Option, Some, None, refl, ap, sym, arith, subst, ◌∙◌, ◌==◌, drop, length}
use Rattle.std.proofs.Common.{take}
use Rattle.std.specs.Prelude.{slice_get, Result, Ok, Err, OnErr, IsOk}
use Rattle.std.specs.Option.{IsSome, option_map_or}
use Rattle.std.proofs.lemmas.Bool.{false≢true}
use Rattle.std.specs.List.{IsDistinct}
use Rattle.std.specs.Map.{keys_of, lookup, lookup_entry, remove_entry, set_value}
use Rattle.std.specs.Cmp.Lexicographic.{nat_list_eq_equiv}
use Rattle.std.proofs.lemmas.Map.{lookup-remove_entry}
use Rattle.std.proofs.lemmas.Bool.Decides.{Decides-eqb}
use Rattle.std.proofs.lemmas.List.{append_assoc}
use Rattle.std.proofs.lemmas.Slice.Eq.{slice_eq-Decides}
use Rattle.lru.specs.LruCache.{demoted, lru_cache, promoted, put_entries}
use Rattle.mc_store.proofs.Arrivals.{put_absent, put_present}
use Rattle.mc_store.proofs.Mapped.{divided}
use Rattle.mc_wire.specs.SameKey.{same_key}
use Rattle.mc_store.specs.declared.stored.Stored.{Stored}
use Rattle.mc_store.specs.internal.Cached.{StoredEntry}
use Rattle.mc_store.specs.internal.Growing.{AreApart}

module _ {K X : Type 0} (test : K → Bool) where
  -- What is found in the first is found in both.
  pub lookup-first : (xs ys : List (K × X)) (v : X) → lookup test xs ≡ Some v → lookup test (xs ++ ys) ≡ Some v
  lookup-first [] ys v found = absurd (cc)
  lookup-first (e ∷ es) ys v found = by (test e.0) found (lookup-first es ys v)
    where
      by : (b : Bool) → cond b (Some e.1) (lookup test es) ≡ Some v
          → (lookup test es ≡ Some v → lookup test (es ++ ys) ≡ Some v)
          → cond b (Some e.1) (lookup test (es ++ ys)) ≡ Some v
      by true here go = here
      by false here go = go here

  -- Where the first has none, the second is what is looked at.
  pub lookup-second : (xs ys : List (K × X)) → lookup test xs ≡ None → lookup test (xs ++ ys) ≡ lookup test ys
  lookup-second [] ys none = refl
  lookup-second (e ∷ es) ys none = by (test e.0) none (lookup-second es ys)
    where
      by : (b : Bool) → cond b (Some e.1) (lookup test es) ≡ None
          → (lookup test es ≡ None → lookup test (es ++ ys) ≡ lookup test ys)
          → cond b (Some e.1) (lookup test (es ++ ys)) ≡ lookup test ys
      by true none go = absurd cc
      by false none go = go none

  -- Where the second has none, the first is what is looked at.
  pub lookup-only_first : (xs ys : List (K × X)) → lookup test ys ≡ None → lookup test (xs ++ ys) ≡ lookup test xs
  lookup-only_first [] ys none = none
  lookup-only_first (e ∷ es) ys none = by (test e.0) (lookup-only_first es ys none)
    where
      by : (b : Bool) → lookup test (es ++ ys) ≡ lookup test es
          → cond b (Some e.1) (lookup test (es ++ ys)) ≡ cond b (Some e.1) (lookup test es)
      by true rest = refl
      by false rest = rest

  -- What is found in the first is removed from it.
  pub remove-first : (xs ys : List (K × X)) (v : X) → lookup test xs ≡ Some v
      → remove_entry test (xs ++ ys) ≡ remove_entry test xs ++ ys
  remove-first [] ys v found = absurd (cc)
  remove-first (e ∷ es) ys v found = by (test e.0) found (remove-first es ys v)
    where
      by : (b : Bool) → cond b (Some e.1) (lookup test es) ≡ Some v
          → (lookup test es ≡ Some v → remove_entry test (es ++ ys) ≡ remove_entry test es ++ ys)
          → cond b (es ++ ys) (e ∷ remove_entry test (es ++ ys)) ≡ cond b es (e ∷ remove_entry test es) ++ ys
      by true here go = refl
      by false here go = ap (λ zs. e ∷ zs) (go here)

  -- Where the first has none, one is removed from the second.
  pub remove-second : (xs ys : List (K × X)) → lookup test xs ≡ None
      → remove_entry test (xs ++ ys) ≡ xs ++ remove_entry test ys
  remove-second [] ys none = refl
  remove-second (e ∷ es) ys none = by (test e.0) none (remove-second es ys)
    where
      by : (b : Bool) → cond b (Some e.1) (lookup test es) ≡ None
          → (lookup test es ≡ None → remove_entry test (es ++ ys) ≡ es ++ remove_entry test ys)
          → cond b (es ++ ys) (e ∷ remove_entry test (es ++ ys)) ≡ e ∷ (es ++ remove_entry test ys)
      by true none go = absurd cc
      by false none go = ap (λ zs. e ∷ zs) (go none)

  -- What is found in the first is set there.
  pub set-first : (xs ys : List (K × X)) (v w : X) → lookup test xs ≡ Some v
      → set_value test (xs ++ ys) w ≡ set_value test xs w ++ ys
  set-first [] ys v w found = absurd (cc)
  set-first (e ∷ es) ys v w found = by (test e.0) found (set-first es ys v w)
    where
      by : (b : Bool) → cond b (Some e.1) (lookup test es) ≡ Some v
          → (lookup test es ≡ Some v → set_value test (es ++ ys) w ≡ set_value test es w ++ ys)
          → cond b ((e.0, w) ∷ (es ++ ys)) (e ∷ set_value test (es ++ ys) w)
          ≡ cond b ((e.0, w) ∷ es) (e ∷ set_value test es w) ++ ys
      by true here go = refl
      by false here go = ap (λ zs. e ∷ zs) (go here)

  -- Where the first has none, one is set in the second.
  pub set-second : (xs ys : List (K × X)) (w : X) → lookup test xs ≡ None
      → set_value test (xs ++ ys) w ≡ xs ++ set_value test ys w
  set-second [] ys w none = refl
  set-second (e ∷ es) ys w none = by (test e.0) none (set-second es ys w)
    where
      by : (b : Bool) → cond b (Some e.1) (lookup test es) ≡ None
          → (lookup test es ≡ None → set_value test (es ++ ys) w ≡ es ++ set_value test ys w)
          → cond b ((e.0, w) ∷ (es ++ ys)) (e ∷ set_value test (es ++ ys) w) ≡ e ∷ (es ++ set_value test ys w)
      by true none go = absurd cc
      by false none go = ap (λ zs. e ∷ zs) (go none)

  -- Where there is none, none is set.
  pub set-none : (xs : List (K × X)) (w : X) → lookup test xs ≡ None → set_value test xs w ≡ xs
  set-none [] w none = refl
  set-none (e ∷ es) w none = by (test e.0) none (set-none es w)
    where
      by : (b : Bool) → cond b (Some e.1) (lookup test es) ≡ None
          → (lookup test es ≡ None → set_value test es w ≡ es)
          → cond b ((e.0, w) ∷ es) (e ∷ set_value test es w) ≡ e ∷ es
      by true none go = absurd cc
      by false none go = ap (λ zs. e ∷ zs) (go none)

-- One less than a number that is more than none.
less_one : (n : ℕ) → suc n - 1 ≡ n
less_one n = omega (arith)

-- All but the last of a list with a first entry.
shorter : {X : Type 0} (x : X) (xs : List X) → take (length (x ∷ xs) - 1) (x ∷ xs) ≡ take (length xs) (x ∷ xs)
shorter x xs = ap (λ n. take n (x ∷ xs)) (less_one (length xs))

behind : {X : Type 0} (x : X) (xs : List X) (y : X) (ys : List X)
    → take (length (xs ++ y ∷ ys)) (x ∷ (xs ++ y ∷ ys)) ≡ x ∷ (xs ++ take (length ys) (y ∷ ys))
behind x [] y ys = refl
behind x (z ∷ zs) y ys = ap (λ es. x ∷ es) (behind z zs y ys)

-- All but the last of two lists: the last of the second is out.
pub without_last : {X : Type 0} (xs ys : List X) → false ≡ (length ys == 0)
    → take (length (xs ++ ys) - 1) (xs ++ ys) ≡ xs ++ take (length ys - 1) ys
without_last xs [] some = absurd cc
without_last [] (y ∷ ys) some = refl
without_last (x ∷ xs) (y ∷ ys) some =
    shorter x (xs ++ y ∷ ys) ∙ (behind x xs y ys ∙ sym (ap (λ es. x ∷ (xs ++ es)) (shorter y ys)))

-- The first entry of a list passes no test under which nothing is found, nor is anything found behind it.
pub absent-head : {K X : Type 0} (other : K → Bool) (e : K × X) (es : List (K × X)) → lookup other (e ∷ es) ≡ None
    → (other e.0 ≡ false) × (lookup other es ≡ None)
absent-head other e es none = by (other e.0) none
  where
    by : (b : Bool) → cond b (Some e.1) (lookup other es) ≡ None → (b ≡ false) × (lookup other es ≡ None)
    by true none = absurd cc
    by false none = (refl, none)

-- Nothing is found where the first entry doesn't pass and nothing is found behind it.
pub absent-cons : {K X : Type 0} (other : K → Bool) (e : K × X) (es : List (K × X)) → other e.0 ≡ false
    → lookup other es ≡ None → lookup other (e ∷ es) ≡ None
absent-cons other e es fails none = rw fails none

module _ {K X : Type 0} (other test : K → Bool) where
  -- A key that is not there is not there once an entry was removed.
  pub absent-removed : (xs : List (K × X)) → lookup other xs ≡ None → lookup other (remove_entry test xs) ≡ None
  absent-removed [] none = none
  absent-removed (e ∷ es) none =
      let at = absent-head other e es none in
      by (test e.0) at.1 (absent-cons other e (remove_entry test es) at.0 (absent-removed es at.1))
    where
      by : (b : Bool) → lookup other es ≡ None → lookup other (e ∷ remove_entry test es) ≡ None
          → lookup other (cond b es (e ∷ remove_entry test es)) ≡ None
      by true without rest = without
      by false without rest = rest

  -- Nor once another value was set.
  pub absent-set : (xs : List (K × X)) (w : X) → lookup other xs ≡ None → lookup other (set_value test xs w) ≡ None
  absent-set [] w none = none
  absent-set (e ∷ es) w none =
      let at = absent-head other e es none in
      by (test e.0) (absent-cons other (e.0, w) es at.0 at.1)
      (absent-cons other e (set_value test es w) at.0 (absent-set es w at.1))
    where
      by : (b : Bool) → lookup other ((e.0, w) ∷ es) ≡ None → lookup other (e ∷ set_value test es w) ≡ None
          → lookup other (cond b ((e.0, w) ∷ es) (e ∷ set_value test es w)) ≡ None
      by true here rest = here
      by false here rest = rest

  -- An entry that is found passes no test under which nothing is found.
  absent-entry : (xs : List (K × X)) (e : K × X) → lookup other xs ≡ None → lookup_entry test xs ≡ Some e
      → other e.0 ≡ false
  absent-entry [] e none found = absurd cc
  absent-entry (x ∷ xs) e none found =
      let at = absent-head other x xs none in by (test x.0) found at.0 (absent-entry xs e at.1)
    where
      by : (b : Bool) → cond b (Some x) (lookup_entry test xs) ≡ Some e → other x.0 ≡ false
          → (lookup_entry test xs ≡ Some e → other e.0 ≡ false) → other e.0 ≡ false
      by true here fails go = let same : x ≡ e = cc (here) in rw (← same) fails
      by false here fails go = go here

  -- Nor once an entry was made the first.
  pub absent-promoted : (xs : List (K × X)) → lookup other xs ≡ None → lookup other (promoted test xs) ≡ None
  absent-promoted xs none = by (lookup_entry test xs) refl
    where
      by : (found : Option (K × X)) → lookup_entry test xs ≡ found
          → lookup other (option_map_or (λ e. e ∷ remove_entry test xs) found xs) ≡ None
      by None at = none
      by (Some e) at =
          absent-cons other e (remove_entry test xs) (absent-entry xs e none at) (absent-removed xs none)

-- What holds of the recent entries for each older key still holds where those of another list are found in neither.
apart-by : (recent new : List StoredEntry)
    → ((key : List ℕ) → lookup (same_key key) recent ≡ None → lookup (same_key key) new ≡ None)
    → (older : List StoredEntry) → AreApart recent older → AreApart new older
apart-by recent new keeps [] apart = apart
apart-by recent new keeps (e ∷ es) apart = (keeps e.0 apart.0, apart-by recent new keeps es apart.1)

module _ (test : List ℕ → Bool) where
  -- Lists that are apart stay so when an entry of the first is removed,
  pub apart-removed : (recent older : List StoredEntry) → AreApart recent older
      → AreApart (remove_entry test recent) older
  apart-removed recent older =
      apart-by recent (remove_entry test recent) (λ key. absent-removed (same_key key) test recent) older

  -- when a value of the first is set,
  pub apart-set : (recent older : List StoredEntry) (w : Stored) → AreApart recent older
      → AreApart (set_value test recent w) older
  apart-set recent older w =
      apart-by recent (set_value test recent w) (λ key. absent-set (same_key key) test recent w) older

  -- when an entry of the first is used,
  pub apart-used : (recent older : List StoredEntry) (w : Stored) → AreApart recent older
      → AreApart (set_value test (promoted test recent) w) older
  apart-used recent older w apart =
      apart-set (promoted test recent) older w
      (apart-by recent (promoted test recent) (λ key. absent-promoted (same_key key) test recent) older apart)

  -- when an entry of the second is removed,
  pub apart-removed_older : (recent older : List StoredEntry) → AreApart recent older
      → AreApart recent (remove_entry test older)
  apart-removed_older recent [] apart = apart
  apart-removed_older recent (e ∷ es) apart = by (test e.0) (apart-removed_older recent es apart.1)
    where
      by : (b : Bool) → AreApart recent (remove_entry test es)
          → AreApart recent (cond b es (e ∷ remove_entry test es))
      by true rest = apart.1
      by false rest = (apart.0, rest)

  -- and when a value of the second is set.
  pub apart-set_older : (recent older : List StoredEntry) (w : Stored) → AreApart recent older
      → AreApart recent (set_value test older w)
  apart-set_older recent [] w apart = apart
  apart-set_older recent (e ∷ es) w apart = by (test e.0) (apart-set_older recent es w apart.1)
    where
      by : (b : Bool) → AreApart recent (set_value test es w)
          → AreApart recent (cond b ((e.0, w) ∷ es) (e ∷ set_value test es w))
      by true rest = (apart.0, apart.1)
      by false rest = (apart.0, rest)

-- An entry that is taken out of a list in which no key is twice is not there any more.
pub distinct-removed : (key : List ℕ) (es : List StoredEntry) → IsDistinct same_key (keys_of es)
    → lookup (same_key key) (remove_entry (same_key key) es) ≡ None
distinct-removed key es distinct =
    rw (
      lookup-remove_entry nat_list_eq_equiv (same_key key) (nat_list_eq_equiv.congr key) key es distinct,
      nat_list_eq_equiv.refl key,
    ) refl

-- Tests that agree find the same.
lookup-alike : {K X : Type 0} (one other : K → Bool) → ((k : K) → one k ≡ other k) → (es : List (K × X))
    → lookup one es ≡ lookup other es
lookup-alike one other alike [] = refl
lookup-alike one other alike (e ∷ es) = rw (alike e.0, lookup-alike one other alike es) refl

-- A key of the second of two lists that are apart is not in the first.
pub apart-absent : (key : List ℕ) (recent older : List StoredEntry) (stored : Stored) → AreApart recent older
    → lookup (same_key key) older ≡ Some stored → lookup (same_key key) recent ≡ None
apart-absent key recent [] stored apart found = absurd cc
apart-absent key recent (e ∷ es) stored apart found =
    by (same_key key e.0) refl found (apart-absent key recent es stored apart.1)
  where
    by : (b : Bool) → same_key key e.0 ≡ b → cond b (Some e.1) (lookup (same_key key) es) ≡ Some stored
        → (lookup (same_key key) es ≡ Some stored → lookup (same_key key) recent ≡ None)
        → lookup (same_key key) recent ≡ None
    by true same found go =
        lookup-alike (same_key key) (same_key e.0) (λ other. nat_list_eq_equiv.congr key e.0 other same) recent
        ∙ apart.0
    by false same found go = go found

-- Two lists stay apart when an entry is put before the first whose key is not in the second.
pub apart-put : (key : List ℕ) (stored : Stored) (recent older : List StoredEntry)
    → lookup (same_key key) older ≡ None → AreApart recent older → AreApart ((key, stored) ∷ recent) older
apart-put key stored recent [] absent apart = apart
apart-put key stored recent (e ∷ es) absent apart =
    let at = absent-head (same_key key) e es absent in (
      absent-cons (same_key e.0) (key, stored) recent (nat_list_eq_equiv.symm e.0 key ∙ at.0) apart.0,
      apart-put key stored recent es at.1 apart.1,
    )

-- Nor when it is put behind the first.
pub apart-last : (key : List ℕ) (stored : Stored) (recent older : List StoredEntry)
    → lookup (same_key key) older ≡ None → AreApart recent older → AreApart (recent ++ (key, stored) ∷ []) older
apart-last key stored recent [] absent apart = apart
apart-last key stored recent (e ∷ es) absent apart =
    let at = absent-head (same_key key) e es absent in (
      lookup-second (same_key e.0) recent ((key, stored) ∷ []) apart.0
          ∙ absent-cons (same_key e.0) (key, stored) [] (nat_list_eq_equiv.symm e.0 key ∙ at.0) refl,
      apart-last key stored recent es at.1 apart.1,
    )

-- Keys of which the test says that they are equal are.
same-keys : (one other : List ℕ) → same_key one other ≡ true → one ≡ other
same-keys one other same = (slice_eq-Decides Decides-eqb one other (same_key one other) refl).0 same

-- An entry of the second that is put before the first is the first of all, as if it were used.
pub promoted-fetched : (key : List ℕ) (stored : Stored) (recent older : List StoredEntry)
    → lookup (same_key key) recent ≡ None → lookup (same_key key) older ≡ Some stored
    → promoted (same_key key) ((key, stored) ∷ recent ++ remove_entry (same_key key) older)
    ≡ promoted (same_key key) (recent ++ older)
promoted-fetched key stored recent older none found =
    let d = divided (same_key key) (recent ++ older) stored (lookup-second (same_key key) recent older none ∙ found) in
    let same : key ≡ d.key = same-keys key d.key d.passes in
    let whole : promoted (same_key key) (recent ++ older)
    ≡ (d.key, stored) ∷ (recent ++ remove_entry (same_key key) older)
    = rw (d.entry, remove-second (same_key key) recent older none) refl in
    let first : promoted (same_key key) ((key, stored) ∷ recent ++ remove_entry (same_key key) older)
    ≡ (key, stored) ∷ (recent ++ remove_entry (same_key key) older) = rw (nat_list_eq_equiv.refl key) refl in
    first ∙ (ap (λ k. (k, stored) ∷ (recent ++ remove_entry (same_key key) older)) same ∙ sym whole)

-- A first entry is made the last.
pub demoted-first : (key : List ℕ) (stored : Stored) (recent : List StoredEntry)
    → demoted (same_key key) ((key, stored) ∷ recent) ≡ recent ++ (key, stored) ∷ []
demoted-first key stored recent = rw (nat_list_eq_equiv.refl key) refl

-- What is known of a list by its first entry.
pub record IsFirst (key : List ℕ) (stored : Stored) (older : List StoredEntry) : Type 0 where
  pub rest : older ≡ (key, stored) ∷ drop 1 older
  pub found : lookup (same_key key) older ≡ Some stored

-- A first entry divides a list, and is found under its key.
pub first_is : (key : List ℕ) (stored : Stored) (older : List StoredEntry) → slice_get older 0 ≡ Some (key, stored)
    → IsFirst key stored older
first_is key stored [] first = absurd cc
first_is key stored (e ∷ es) first =
    let same : e ≡ (key, stored) = cc (first) in
    record {
      rest = ap (λ f. f ∷ es) same;
      found = rw (same, nat_list_eq_equiv.refl key) refl;
    }

-- Two lists are apart once the first entry of the second is the last of the first.
pub apart-moved : (key : List ℕ) (stored : Stored) (recent older : List StoredEntry)
    → slice_get older 0 ≡ Some (key, stored) → IsDistinct same_key (keys_of older) → AreApart recent older
    → AreApart (recent ++ (key, stored) ∷ []) (drop 1 older)
apart-moved key stored recent [] first distinct apart = absurd cc
apart-moved key stored recent (e ∷ es) first distinct apart =
    let same : e ≡ (key, stored) = cc (first) in
    let gone = distinct-removed key ((key, stored) ∷ es)
    (subst (λ (f : StoredEntry). IsDistinct same_key (keys_of (f ∷ es))) same distinct) in
    apart-last key stored recent es (rw (nat_list_eq_equiv.refl key) at gone) apart.1

-- The whole is the same.
pub moved_whole : (key : List ℕ) (stored : Stored) (recent older : List StoredEntry)
    → slice_get older 0 ≡ Some (key, stored) → (recent ++ (key, stored) ∷ []) ++ drop 1 older ≡ recent ++ older
moved_whole key stored recent older first =
    append_assoc recent ((key, stored) ∷ []) (drop 1 older)
    ∙ ap (λ (es : List StoredEntry). recent ++ es) (sym (first_is key stored older first).rest)

-- An entry that is found in the first is found in both.
lookup_entry-first : {K X : Type 0} (test : K → Bool) (xs ys : List (K × X)) (e : K × X) → lookup_entry test xs ≡ Some e
    → lookup_entry test (xs ++ ys) ≡ Some e
lookup_entry-first test [] ys e found = absurd cc
lookup_entry-first test (x ∷ xs) ys e found = by (test x.0) found (lookup_entry-first test xs ys e)
  where
    by : (b : Bool) → cond b (Some x) (lookup_entry test xs) ≡ Some e
        → (lookup_entry test xs ≡ Some e → lookup_entry test (xs ++ ys) ≡ Some e)
        → cond b (Some x) (lookup_entry test (xs ++ ys)) ≡ Some e
    by true here go = here
    by false here go = go here

-- Two lists stay apart when the first takes an item whose key is not in the second.
pub apart-put_entries : (key : List ℕ) (stored : Stored) (recent older : List StoredEntry) (cap : ℕ)
    → lookup (same_key key) older ≡ None → (lookup (same_key key) recent ≡ None → length recent < cap)
    → AreApart recent older → AreApart (put_entries same_key (lru_cache recent cap) key stored) older
apart-put_entries key stored recent older cap gone few apart = by (lookup (same_key key) recent) refl
  where
    by : (found : Option Stored) → lookup (same_key key) recent ≡ found
        → AreApart (put_entries same_key (lru_cache recent cap) key stored) older
    by None at =
        rw (put_absent same_key recent cap key stored at (few at)) (apart-put key stored recent older gone apart)
    by (Some was) at =
        let d = divided (same_key key) recent was at in
        rw (
          put_present same_key recent cap key stored (d.key, was) d.entry,
          ← same-keys key d.key d.passes,
        )
        (apart-put key stored (remove_entry (same_key key) recent) older gone
        (apart-removed (same_key key) recent older apart))

-- What the first takes the whole takes.
pub put-two : (key : List ℕ) (stored : Stored) (recent older : List StoredEntry) (cap all : ℕ)
    → lookup (same_key key) older ≡ None → (lookup (same_key key) recent ≡ None → length recent < cap)
    → (lookup (same_key key) (recent ++ older) ≡ None → length (recent ++ older) < all)
    → put_entries same_key (lru_cache recent cap) key stored ++ older
    ≡ put_entries same_key (lru_cache (recent ++ older) all) key stored
put-two key stored recent older cap all gone few fits = by (lookup (same_key key) recent) refl
  where
    by : (found : Option Stored) → lookup (same_key key) recent ≡ found
        → put_entries same_key (lru_cache recent cap) key stored ++ older
        ≡ put_entries same_key (lru_cache (recent ++ older) all) key stored
    by None at =
        let none = lookup-only_first (same_key key) recent older gone ∙ at in
        rw (
          put_absent same_key recent cap key stored at (few at),
          put_absent same_key (recent ++ older) all key stored none (fits none),
        ) refl
    by (Some was) at =
        let d = divided (same_key key) recent was at in
        rw (
          put_present same_key recent cap key stored (d.key, was) d.entry,
          put_present same_key (recent ++ older) all key stored (d.key, was)
              (lookup_entry-first (same_key key) recent older (d.key, was) d.entry),
          remove-first (same_key key) recent older was at,
        ) refl

-- the list with another value in its first entry
abbrev instead : Stored → List StoredEntry → List StoredEntry
instead stored [] = []
instead stored (e ∷ es) = (e.0, stored) ∷ es

-- An item that is put under a key that is there is used, and then has the other value.
put-by-use : (key : List ℕ) (stored was : Stored) (es : List StoredEntry) (cap : ℕ)
    → lookup (same_key key) es ≡ Some was
    → put_entries same_key (lru_cache es cap) key stored ≡ instead stored (promoted (same_key key) es)
put-by-use key stored was es cap found =
    let d = divided (same_key key) es was found in rw d.entry refl

-- So it makes no difference whether the item was used before.
pub put-used : (key : List ℕ) (stored : Stored) (es used : List StoredEntry) (cap : ℕ)
    → promoted (same_key key) used ≡ promoted (same_key key) es
    → lookup (same_key key) used ≡ lookup (same_key key) es → (lookup (same_key key) es ≡ None → used ≡ es)
    → put_entries same_key (lru_cache used cap) key stored ≡ put_entries same_key (lru_cache es cap) key stored
put-used key stored es used cap same found none = by (lookup (same_key key) es) refl
  where
    by : (was : Option Stored) → lookup (same_key key) es ≡ was
        → put_entries same_key (lru_cache used cap) key stored ≡ put_entries same_key (lru_cache es cap) key stored
    by None at = rw (none at) refl
    by (Some was) at =
        put-by-use key stored was used cap (found ∙ at)
        ∙ (ap (instead stored) same ∙ sym (put-by-use key stored was es cap at))

-- What is never refused over what is there is refused only where nothing is.
pub refused_unless_there : {T E X A P : Type 0} (result : Result T E) (there : Option X) → (there ≡ None → A → P)
    → (IsSome there → IsOk result) → OnErr result A → OnErr result P
refused_unless_there (Ok value) there absent never refused = refused
refused_unless_there (Err error) None absent never refused = absent refl refused
refused_unless_there (Err error) (Some x) absent never refused = absurd (false≢true (never refl))

-- An entry that is used where none of the second has its key is used in the whole.
pub used_whole : (test : List ℕ → Bool) (recent older es : List StoredEntry) (was w : Stored)
    → lookup test older ≡ None → lookup test (recent ++ older) ≡ Some was
    → promoted test (recent ++ older) ≡ promoted test es
    → set_value test (promoted test recent) w ++ older ≡ set_value test (promoted test es) w
used_whole test recent older es was w gone found same =
    let here : lookup test recent ≡ Some was = sym (lookup-only_first test recent older gone) ∙ found in
    let d = divided test recent was here in
    let whole = lookup_entry-first test recent older (d.key, was) d.entry in
    let used : set_value test (promoted test recent) w ++ older ≡ set_value test (promoted test (recent ++ older)) w
    = rw (d.entry, whole, remove-first test recent older was here, d.passes) refl in
    used ∙ ap (λ (l : List StoredEntry). set_value test l w) same
