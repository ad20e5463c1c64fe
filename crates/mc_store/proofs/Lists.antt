-- A list in the order of use shows a map of numbered items, through each change of both.
use Rattle.std.proofs.Common.{◌≡◌, ℕ, ◌-◌, ◌<◌, Bool, true, false, cond, List, [], ◌∷◌, length, Option, Some, None}
use Rattle.std.proofs.Common.{refl, sym, ap, ◌∙◌, inl, inr, arith, nat_eq, subst}
use Rattle.std.specs.Ordering.{nat_cmp, eq_by_cmp}
use Rattle.std.specs.declared.cmp.Ordering.TheVariants.{Equal}
use Rattle.std.specs.Option.{option_map}
use Rattle.std.specs.Cmp.Lexicographic.{slice_cmp, pointwise, texts_ties, nat_list_cmp_total}
use Rattle.std.specs.FinMap.{empty, get, insert, remove, retain_keys, len, contains_key, get-empty, get-insert}
use Rattle.std.specs.FinMap.{get-remove, get-retain_keys, len-empty, len-remove, empty_of_len, same_map}
use Rattle.std.specs.FinMap.{slice_cmp-IsAntisymmetric, nat_cmp-IsAntisymmetric}
use Rattle.std.specs.Cmp.{tied_itself, Equal-is}
use Rattle.std.specs.Map.{lookup, remove_entry}
use Rattle.std.proofs.lemmas.Bool.{cases_Bool, cases_lt}
use Rattle.mc_item.specs.declared.item.Item.{Item}
use Rattle.mc_store.specs.State.{Used, Items}
use Rattle.mc_store.specs.Shard.{AllBelow, Shows}

-- Keys

-- whether two keys are the same
abbrev pub same : List ℕ → List ℕ → Bool
same = eq_by_cmp (slice_cmp nat_cmp)

-- A key is the same as itself.
pub same_self : (k : List ℕ) → same k k ≡ true
same_self k = rw (tied_itself nat_list_cmp_total k)

tie : (q k : List ℕ) → slice_cmp nat_cmp q k ≡ Equal → q ≡ k
tie q k = slice_cmp-IsAntisymmetric nat_cmp-IsAntisymmetric q k

-- Two keys that compare as the same are equal.
pub same_is : (q k : List ℕ) → same q k ≡ true → q ≡ k
same_is q k h = tie q k ((Equal-is (slice_cmp nat_cmp q k)).0 h)

-- what holds of a key, and of each other one, holds of all
pub by_key : (P : List ℕ → Type 0) (k q : List ℕ) → P k → (same q k ≡ false → P q) → P q
by_key P k q here there = elim (cases_Bool (same q k)) [ inl t ↦ subst P (sym (same_is q k t)) here | inr f ↦ there f ]

-- Two keys that differ do so whichever is compared with the other.
pub not_same : (q k : List ℕ) → same q k ≡ false → same k q ≡ false
not_same q k h = by_key (λ x. same q x ≡ false → same x q ≡ false) q k (λ t. t) (λ f _. f) h

-- Maps by their look-ups

-- an item with the number of its last use
abbrev pub used : Item → ℕ → Used
used item number = record { item = item; number = number }

-- the map without items
abbrev pub nothing : Items
nothing = empty

-- In the map without items, no key finds an item.
pub get_nothing : (q : List ℕ) → get nothing q ≡ None
get_nothing q = get-empty (slice_cmp nat_cmp) q

pub get_removed : (m : Items) (k q : List ℕ) → get (remove m k) q ≡ cond (same q k) None (get m q)
get_removed m k q = get-remove nat_list_cmp_total m k q

get_inserted : (m : Items) (k : List ℕ) (u : Used) (q : List ℕ) → get (insert m k u) q
    ≡ cond (same q k) (Some u) (get m q)
get_inserted m k u q = get-insert nat_list_cmp_total m k u q

-- Where only the keys that pass a test are kept, such a key finds what it found before, and another finds none.
pub get_retained : (m : Items) (p : List ℕ → Bool) (q : List ℕ) → get (retain_keys m p) q ≡ cond (p q) (get m q) None
get_retained m p q = get-retain_keys m p q (λ x t. ap p (sym (tie q x t)))

-- each change, at the key and at another one
pub get_gone : (m : Items) (k : List ℕ) → get (remove m k) k ≡ None
get_gone m k = rw (get_removed m k k, same_self k)

-- Once an item is removed, every other key finds what it found before.
pub get_apart : (m : Items) (k q : List ℕ) → same q k ≡ false → get (remove m k) q ≡ get m q
get_apart m k q apart = rw (get_removed m k q, apart)

-- The key under which an item is put finds it.
pub get_here : (m : Items) (k : List ℕ) (u : Used) → get (insert m k u) k ≡ Some u
get_here m k u = rw (get_inserted m k u k, same_self k)

-- Once an item is put, every other key finds what it found before.
pub get_other : (m : Items) (k q : List ℕ) (u : Used) → same q k ≡ false → get (insert m k u) q ≡ get m q
get_other m k q u apart = rw (get_inserted m k u q, apart)

-- what is there after a change was there before, or is the item put
pub get_kept : (m : Items) (k q : List ℕ) (u : Used) → get (remove m k) q ≡ Some u → get m q ≡ Some u
get_kept m k q u =
    by_key (λ x. get (remove m k) x ≡ Some u → get m x ≡ Some u) k q (λ h. absurd (let none = get_gone m k in cc))
    (λ f h. sym (get_apart m k q f) ∙ h)

-- An item found among those that are kept was there before.
pub retained_is : (m : Items) (p : List ℕ → Bool) (q : List ℕ) (u : Used) → get (retain_keys m p) q ≡ Some u → get m q
    ≡ Some u
retained_is m p q u h = elim (cases_Bool (p q)) [
  | inl t ↦ rw (get_retained m p q, t) at h
  | inr f ↦ absurd (let h' = rw (get_retained m p q, f) at h in cc)
]

-- What holds of the item that is put, and of every item that was there, holds of every item that is there then.
pub inserted_all : (m : Items) (k : List ℕ) (u : Used) (P : List ℕ → Used → Type 0) → P k u
    → ((q : List ℕ) (v : Used) → get m q ≡ Some v → P q v) →
    (q : List ℕ) (v : Used) → get (insert m k u) q ≡ Some v → P q v
inserted_all m k u P here there q v = by_key (λ x. get (insert m k u) x ≡ Some v → P x v) k q
    (λ h. let is : u ≡ v = (let first = get_here m k u in cc) in subst (λ w. P k w) is here)
    (λ f h. there q v (sym (get_other m k q u f) ∙ h))

-- Maps with the same look-ups are one.

-- Two maps in which each key finds the same are one.
pub same_items : (m n : Items) → ((q : List ℕ) → get m q ≡ get n q) → m ≡ n
same_items m n h = same_map nat_list_cmp_total (slice_cmp-IsAntisymmetric nat_cmp-IsAntisymmetric) m n h

-- Two maps are one where this key finds the same in both, and each other key does.
pub same_but : (m n : Items) (k : List ℕ) → get m k ≡ get n k → ((q : List ℕ) → same q k ≡ false → get m q ≡ get n q)
    → m ≡ n
same_but m n k here there = same_items m n (λ q. by_key (λ x. get m x ≡ get n x) k q here (there q))

-- either way there is none
pub none_either : (b : Bool) → cond {A = Option Used} b None None ≡ None
none_either true = refl
none_either false = refl

remove-remove : (m : Items) (a b : List ℕ) → remove (remove m a) b ≡ remove (remove m b) a
remove-remove m a b = same_but (remove (remove m a) b) (remove (remove m b) a) b
    (rw (get_gone (remove m a) b, get_removed (remove m b) a b, get_gone m b) (sym (none_either (same b a))))
    (λ q f. rw (get_apart (remove m a) b q f, get_removed m a q, get_removed (remove m b) a q, get_apart m b q f))

-- To remove under a key that has no item changes nothing.
pub remove_none : (m : Items) (k : List ℕ) → get m k ≡ None → remove m k ≡ m
remove_none m k none = same_but (remove m k) m k (get_gone m k ∙ sym none) (get_apart m k)

-- what is put and taken out again, and what is taken out and put again
pub insert_gone : (m : Items) (k : List ℕ) (u : Used) → remove (insert m k u) k ≡ remove m k
insert_gone m k u = same_but (remove (insert m k u) k) (remove m k) k (get_gone (insert m k u) k ∙ sym (get_gone m k))
    (λ q f. get_apart (insert m k u) k q f ∙ get_other m k q u f ∙ sym (get_apart m k q f))

-- To put an item where the old one was removed first is to put it over the old one.
pub insert-remove : (m : Items) (k : List ℕ) (u : Used) → insert (remove m k) k u ≡ insert m k u
insert-remove m k u =
    same_but (insert (remove m k) k u) (insert m k u) k (get_here (remove m k) k u ∙ sym (get_here m k u))
    (λ q f. get_other (remove m k) k q u f ∙ get_apart m k q f ∙ sym (get_other m k q u f))

-- To put the item that is there changes nothing.
pub insert_same : (m : Items) (k : List ℕ) (u : Used) → get m k ≡ Some u → insert m k u ≡ m
insert_same m k u is = same_but (insert m k u) m k (get_here m k u ∙ sym is) (λ q f. get_other m k q u f)

-- To put an item under one key and to remove one under another may be done in either order.
pub insert_apart : (m : Items) (k a : List ℕ) (u : Used) → same a k ≡ false → remove (insert m k u) a
    ≡ insert (remove m a) k u
insert_apart m k a u f = same_but (remove (insert m k u) a) (insert (remove m a) k u) a
    (get_gone (insert m k u) a ∙ sym (get_other (remove m a) k a u f ∙ get_gone m a))
    (λ q g. rw (
      get_apart (insert m k u) a q g,
      get_inserted m k u q,
      get_inserted (remove m a) k u q,
      get_apart m a q g,
    ))

-- What the list shows

-- Where all numbers of last use are below a number, those of the items that a removal leaves are so too.
pub AllBelow-remove : (m : Items) (k : List ℕ) (n : ℕ) → AllBelow m n → AllBelow (remove m k) n
AllBelow-remove m k n below q u h = below q u (get_kept m k q u h)

-- a look-up in the list finds the item that the map has
pub lookup-Shows : (es : List (List ℕ × Item)) (m : Items) → Shows es m → (q : List ℕ) → lookup (pointwise nat_eq q) es
    ≡ option_map (λ u. u.item) (get m q)
lookup-Shows [] m h q = rw (h, get_nothing q)
lookup-Shows (e ∷ es) m h q = elim (cases_Bool (same q e.0)) [
  | inl t ↦ rw (texts_ties q e.0, t, same_is q e.0 t, h.1)
  | inr f ↦ rw (texts_ties q e.0, f)
      (lookup-Shows es (remove m e.0) h.3 q ∙ ap (λ o. option_map (λ u. u.item) o) (get_apart m e.0 q f))
]

-- the list without a key shows the map without it
pub Shows-remove : (es : List (List ℕ × Item)) (m : Items) (k : List ℕ) → Shows es m
    → Shows (remove_entry (pointwise nat_eq k) es) (remove m k)
Shows-remove [] m k h = rw h (remove_none nothing k (get_nothing k))
Shows-remove (e ∷ es) m k h = elim (cases_Bool (same k e.0)) [
  | inl t ↦ rw (texts_ties k e.0, t, same_is k e.0 t) h.3
  | inr f ↦
      let swapped = remove-remove m e.0 k in
      rw (texts_ties k e.0, f) (
        h.0,
        get_apart m k e.0 (not_same k e.0 f) ∙ h.1,
        rw (← swapped) (AllBelow-remove (remove m e.0) k h.0 h.2),
        rw (← swapped) (Shows-remove es (remove m e.0) k h.3),
      )
]

-- an item that is put first
pub Shows-first : (es : List (List ℕ × Item)) (m : Items) (k : List ℕ) (item : Item) (n : ℕ) → Shows es (remove m k)
    → AllBelow (remove m k) n →
    Shows ((k, item) ∷ es) (insert m k (used item n))
Shows-first es m k item n h below =
    let out = insert_gone m k (used item n) in
    (n, get_here m k (used item n), rw out below, rw out h)

not_empty : (m : Items) (k : List ℕ) (u : Used) → get m k ≡ Some u → 0 < len m
not_empty m k u h = elim (cases_lt 0 (len m)) [
  | inl some ↦ some
  | inr none ↦ let is : m ≡ nothing =
      empty_of_len m (omega arith) in absurd (let h' = rw (is, get_nothing k) at h in cc)
]

-- the map has as many items as the list
pub len-Shows : (es : List (List ℕ × Item)) (m : Items) → Shows es m → len m ≡ length es
len-Shows [] m h = rw h (len-empty (slice_cmp nat_cmp) Used)
len-Shows (e ∷ es) m h =
    let removed = len-remove nat_list_cmp_total m e.0 in
    let found : contains_key m e.0 ≡ true = rw h.1 in
    let rest = len-Shows es (remove m e.0) h.3 in
    let fewer : len (remove m e.0) ≡ len m - 1 = rw found at removed in
    let some : 0 < len m = not_empty m e.0 (used e.1 h.0) h.1 in
    omega arith
