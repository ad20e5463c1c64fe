-- What a list of items costs, through each change of the list.
use Rattle.std.proofs.Common.{◌≡◌, ℕ, ◌+◌, ◌-◌, ◌*◌, ◌<◌, ◌≤◌, List, [], ◌∷◌, length, take, Option, Some, None, refl}
use Rattle.std.proofs.Common.{sym, ap, ◌∙◌, inl, inr, arith, nat_eq, nat_le}
use Rattle.std.specs.Prelude.{slice_get}
use Rattle.std.specs.Cmp.Lexicographic.{pointwise, texts_ties}
use Rattle.std.specs.Map.{lookup, lookup_entry, remove_entry, set_value}
use Rattle.std.proofs.lemmas.Bool.{cases_Bool, le-leb, lt-leb, leb-true}
use Rattle.std.proofs.lemmas.List.Elements.{All-nil, All-cons, All-head, All-tail}
use Rattle.std.proofs.lemmas.List.{take_all}
use Rattle.std.proofs.lemmas.List.Sums.{sum_by-cons}
use Rattle.lru.specs.LruCache.{lru_cache, promoted, put_entries}
use Rattle.mc_item.specs.declared.item.Item.{Item}
use Rattle.mc_store.specs.internal.Listed.{ListedItem, entry_cost, listed_cost, freed_by, within, HaveKeys, IsCounted}
use Rattle.mc_store.proofs.Lists.{same_is, same_self}

-- A list costs what its first item costs and what the others do.
pub cost_cons : (e : ListedItem) (es : List ListedItem) → listed_cost (e ∷ es) ≡ entry_cost e + listed_cost es
cost_cons e es = sum_by-cons entry_cost e es

-- The items within a room

all_within : (room : ℕ) (es : List ListedItem) → listed_cost es ≤ room → within room es ≡ es
all_within room [] h = refl
all_within room (e ∷ es) h =
    let whole = cost_cons e es in
    rw (le-leb (entry_cost e) room (omega arith)) (ap (λ l. e ∷ l) (all_within (room - entry_cost e) es (omega arith)))

-- The items within a room cost no more than the room.
pub cost_within : (room : ℕ) (es : List ListedItem) → listed_cost (within room es) ≤ room
cost_within room [] = omega arith
cost_within room (e ∷ es) = elim (cases_Bool (nat_le (entry_cost e) room)) [
  | inl t ↦ rw t (omega (
    arith,
    leb-true (entry_cost e) room t,
    cost_cons e (within (room - entry_cost e) es),
    cost_within (room - entry_cost e) es,
  ))
  | inr f ↦ rw f (omega arith)
]

-- the last item is evicted where they cost too much
without_last : (room : ℕ) (e : ListedItem) (es : List ListedItem) → room < listed_cost (e ∷ es)
    → within room (take (length es) (e ∷ es)) ≡ within room (e ∷ es)
without_last room e [] h = rw (lt-leb (entry_cost e) room (omega (arith, cost_cons e []))) refl
without_last room e (f ∷ fs) h = elim (cases_Bool (nat_le (entry_cost e) room)) [
  | inl t ↦ rw t (ap (λ l. e ∷ l)
      (without_last (room - entry_cost e) f fs (omega (arith, leb-true (entry_cost e) room t, cost_cons e (f ∷ fs)))))
  | inr b ↦ rw b refl
]

-- what is left costs less by the last item
cost_last : (e : ListedItem) (es : List ListedItem) (last : ListedItem) → slice_get (e ∷ es) (length es) ≡ Some last →
    listed_cost (take (length es) (e ∷ es)) + entry_cost last ≡ listed_cost (e ∷ es)
cost_last e [] last h = let is : e ≡ last = cc in let same_cost = ap entry_cost is in omega (arith, cost_cons e [])
cost_last e (f ∷ fs) last h =
    omega (arith, cost_last f fs last h, cost_cons e (take (length fs) (f ∷ fs)), cost_cons e (f ∷ fs))

abbrev HasKey : ListedItem → Type 0
HasKey e = 0 < length e.0

keys_within : (room : ℕ) (es : List ListedItem) → HaveKeys es → HaveKeys (within room es)
keys_within room [] h = h
keys_within room (e ∷ es) h = elim (cases_Bool (nat_le (entry_cost e) room)) [
  | inl t ↦ rw t (All-cons HasKey e (within (room - entry_cost e) es) (All-head HasKey e es h)
      (keys_within (room - entry_cost e) es (All-tail HasKey e es h)))
  | inr f ↦ rw f (All-nil HasKey)
]

-- how many items there may be
count_within : (es : List ListedItem) → HaveKeys es → 65 * length es ≤ listed_cost es
count_within [] h = omega arith
count_within (e ∷ es) h =
    omega (arith, All-head HasKey e es h, count_within es (All-tail HasKey e es h), cost_cons e es)

-- There is always room for one more item.
pub room_for_one : (es : List ListedItem) (capacity cost budget : ℕ) → IsCounted es capacity cost budget
    → length es < capacity
room_for_one es capacity cost budget h = omega (arith, count_within es h.keys, h.counted, h.fits, h.room)

-- What the look-up under a key shows of the list

-- an item is found
record Finds (es : List ListedItem) (key : List ℕ) (item : Item) : Type 0 where
  entry : lookup_entry (pointwise nat_eq key) es ≡ Some (key, item)
  cost : listed_cost (remove_entry (pointwise nat_eq key) es) + entry_cost (key, item) ≡ listed_cost es
  some : HaveKeys es → 0 < length key

finds : (es : List ListedItem) (key : List ℕ) (item : Item) → lookup (pointwise nat_eq key) es ≡ Some item
    → Finds es key item
finds [] key item h = absurd cc
finds (e ∷ es) key item h = elim (cases_Bool (pointwise nat_eq key e.0)) [
  | inl t ↦
      let name : e.0 ≡ key = sym (same_is key e.0 (sym (texts_ties key e.0) ∙ t)) in
      let value : e.1 ≡ item = (let h' = rw t at h in cc) in
      let is : e ≡ (key, item) = λ i. (name i, value i) in
      let same_cost = ap entry_cost is in
      record {
        entry = rw t (ap (λ f. Some f) is);
        cost = rw t (omega (arith, cost_cons e es));
        some = λ keys. rw (← name) (All-head HasKey e es keys);
      }
  | inr f ↦
      let rest = finds es key item (rw f at h) in
      let left = cost_cons e (remove_entry (pointwise nat_eq key) es) in
      let whole = cost_cons e es in
      record {
        entry = rw f rest.entry;
        cost = rw f (omega (arith, rest.cost));
        some = λ keys. rest.some (All-tail HasKey e es keys);
      }
]

-- none is found
pub not_found : (es : List ListedItem) (key : List ℕ) → lookup (pointwise nat_eq key) es ≡ None →
    (lookup_entry (pointwise nat_eq key) es ≡ None) × (remove_entry (pointwise nat_eq key) es ≡ es)
not_found [] key h = (refl, refl)
not_found (e ∷ es) key h = elim (cases_Bool (pointwise nat_eq key e.0)) [
  | inl t ↦ absurd (let h' = rw t at h in cc)
  | inr f ↦ let rest = not_found es key (rw f at h) in rw f (rest.0, ap (λ l. e ∷ l) rest.1)
]

keys_removed : (es : List ListedItem) (key : List ℕ) → HaveKeys es → HaveKeys (remove_entry (pointwise nat_eq key) es)
keys_removed [] key h = h
keys_removed (e ∷ es) key h = elim (cases_Bool (pointwise nat_eq key e.0)) [
  | inl t ↦ rw t (All-tail HasKey e es h)
  | inr f ↦ rw f (All-cons HasKey e (remove_entry (pointwise nat_eq key) es) (All-head HasKey e es h)
      (keys_removed es key (All-tail HasKey e es h)))
]

-- What is left while the last items are taken out: it costs so much, and what is within the budget is the same.
pub record Evicting (before left : List ListedItem) (budget left_cost : ℕ) : Type 0 where
  pub counted : left_cost ≡ listed_cost left
  pub same : within budget left ≡ within budget before

-- While the items cost more than the budget, the last one may go: those that stay in the end are the same.
pub evicting_one : (before left : List ListedItem) (budget left_cost : ℕ) (last : ListedItem)
    → Evicting before left budget left_cost → budget < left_cost → slice_get left (length left - 1) ≡ Some last →
    (entry_cost last ≤ left_cost) × Evicting before (take (length left - 1) left) budget (left_cost - entry_cost last)
evicting_one before [] budget left_cost last h more is = absurd cc
evicting_one before (e ∷ es) budget left_cost last h more is =
    let count : length (e ∷ es) - 1 ≡ length es = omega arith in
    let rest = cost_last e es last (rw count at is) in
    rw count (omega arith, record { counted = omega arith; same = without_last budget e es (omega arith) ∙ h.same })

-- Once the items that are left cost no more than the budget, they are those that fit it.
pub evicting_all : (before left : List ListedItem) (budget left_cost : ℕ) → Evicting before left budget left_cost
    → left_cost ≤ budget → (left ≡ within budget before) × (left_cost ≡ listed_cost (within budget before))
evicting_all before left budget left_cost h small =
    let whole : left ≡ within budget before = sym (all_within budget left (omega arith)) ∙ h.same in
    (whole, h.counted ∙ ap listed_cost whole)

-- there is always one to take out
pub evicting_some : (before left : List ListedItem) (budget left_cost : ℕ) → Evicting before left budget left_cost
    → budget < left_cost → slice_get left (length left - 1) ≡ None → ⊥
evicting_some before [] budget left_cost h more none = omega arith
evicting_some before (e ∷ es) budget left_cost h more none = let count : length (e ∷ es) - 1 ≡ length es =
    omega arith in there e es (rw count at none) where
      there : (e : ListedItem) (es : List ListedItem) → slice_get (e ∷ es) (length es) ≡ None → ⊥
      there e [] none = cc
      there e (f ∷ fs) none = there f fs none

-- Changes of a counted list

-- an item of the list costs no more than all
pub costs_some : (es : List ListedItem) (key : List ℕ) (item : Item) → lookup (pointwise nat_eq key) es ≡ Some item
    → entry_cost (key, item) ≤ listed_cost es
costs_some es key item is = omega (arith, (finds es key item is).cost)

-- When an item is removed and what it cost is taken off, the cost of all is still right.
pub counted_removed : (es : List ListedItem) (capacity cost budget : ℕ) (key : List ℕ) (item : Item)
    → IsCounted es capacity cost budget → lookup (pointwise nat_eq key) es ≡ Some item
    → IsCounted (remove_entry (pointwise nat_eq key) es) capacity (cost - entry_cost (key, item)) budget
counted_removed es capacity cost budget key item h is =
    let counted : cost - entry_cost (key, item) ≡ listed_cost (remove_entry (pointwise nat_eq key) es) =
    omega (arith, (finds es key item is).cost) in
    let fits : cost - entry_cost (key, item) ≤ budget = omega arith in
    assumption (keys_removed es key h.keys)

-- an item in its place, with the value that it had
same_cost : (e : ListedItem) (item : Item) → item.value ≡ e.1.value → entry_cost (e.0, item) ≡ entry_cost e
same_cost e item is = ap (λ v. entry_cost (e.0, record item { value = v })) is

set_counted : (es : List ListedItem) (key : List ℕ) (old item : Item) → lookup (pointwise nat_eq key) es ≡ Some old
    → item.value ≡ old.value →
    HaveKeys es → (listed_cost (set_value (pointwise nat_eq key) es item) ≡ listed_cost es)
    × HaveKeys (set_value (pointwise nat_eq key) es item)
set_counted [] key old item h is keys = absurd cc
set_counted (e ∷ es) key old item h is keys =
    let first = All-head HasKey e es keys in
    let others = All-tail HasKey e es keys in
    let whole = cost_cons e es in
    elim (cases_Bool (pointwise nat_eq key e.0)) [
      | inl t ↦
          let value : e.1 ≡ old = (let h' = rw t at h in cc) in
          let one = same_cost e item (is ∙ sym (ap (λ i. i.value) value)) in
          rw t (omega (arith, cost_cons (e.0, item) es), All-cons HasKey (e.0, item) es first others)
      | inr f ↦
          let rest = set_counted es key old item (rw f at h) is others in
          let set = set_value (pointwise nat_eq key) es item in
          rw f (omega (arith, rest.0, cost_cons e set), All-cons HasKey e set first rest.1)
    ]

-- When an item changes in place and keeps its value, the cost of all is still right.
pub counted_set : (es : List ListedItem) (capacity cost budget : ℕ) (key : List ℕ) (old item : Item)
    → IsCounted es capacity cost budget → lookup (pointwise nat_eq key) es ≡ Some old → item.value ≡ old.value
    → IsCounted (set_value (pointwise nat_eq key) es item) capacity cost budget
counted_set es capacity cost budget key old item h is value = let set =
    set_counted es key old item is value h.keys in assumption (h.counted ∙ sym set.0)

-- the item made the first, and then set
pub first_is : (es : List ListedItem) (key : List ℕ) (old item : Item) → lookup (pointwise nat_eq key) es ≡ Some old
    → set_value (pointwise nat_eq key) (promoted (pointwise nat_eq key) es) item
    ≡ (key, item) ∷ remove_entry (pointwise nat_eq key) es
first_is es key old item h = rw ((finds es key old h).entry, texts_ties key key, same_self key)

-- When an item becomes the most recently used one and keeps its value, the cost of all is still right.
pub counted_first : (es : List ListedItem) (capacity cost budget : ℕ) (key : List ℕ) (old item : Item)
    → IsCounted es capacity cost budget → lookup (pointwise nat_eq key) es ≡ Some old → item.value ≡ old.value
    → IsCounted (set_value (pointwise nat_eq key) (promoted (pointwise nat_eq key) es) item) capacity cost budget
counted_first es capacity cost budget key old item h is value =
    let found = finds es key old is in
    let left = remove_entry (pointwise nat_eq key) es in
    let counted : cost ≡ listed_cost ((key, item) ∷ left) =
    omega (arith, h.counted, found.cost, cost_cons (key, item) left, same_cost (key, old) item value) in
    let keys : HaveKeys ((key, item) ∷ left) =
    All-cons HasKey (key, item) left (found.some h.keys) (keys_removed es key h.keys) in
    rw (first_is es key old item is) assumption

-- it is evicted, as it would have been before
pub first_gone : (es : List ListedItem) (key : List ℕ) (old item : Item) → lookup (pointwise nat_eq key) es ≡ Some old
    → remove_entry (pointwise nat_eq key) (set_value (pointwise nat_eq key) (promoted (pointwise nat_eq key) es) item)
    ≡ remove_entry (pointwise nat_eq key) es
first_gone es key old item h = rw (first_is es key old item h, texts_ties key key, same_self key)

-- A put

-- what a put gives, which never pushes an item out
pub put_is : (es : List ListedItem) (capacity cost budget : ℕ) (key : List ℕ) (item : Item)
    → IsCounted es capacity cost budget → put_entries (pointwise nat_eq) (lru_cache es capacity) key item
    ≡ (key, item) ∷ remove_entry (pointwise nat_eq key) es
put_is es capacity cost budget key item h = by_lookup (lookup (pointwise nat_eq key) es) refl where
  by_lookup : (o : Option Item) → lookup (pointwise nat_eq key) es ≡ o
      → put_entries (pointwise nat_eq) (lru_cache es capacity) key item
      ≡ (key, item) ∷ remove_entry (pointwise nat_eq key) es
  by_lookup (Some old) is = rw ((finds es key old is).entry)
  by_lookup None is =
      let none = not_found es key is in
      rw (none.0, none.1, take_all (capacity - 1) es (omega (arith, count_within es h.keys, h.counted, h.fits, h.room)))

-- what all cost after a put, over an item that was there or over none
pub put_cost : (es : List ListedItem) (key : List ℕ) (item : Item) (cost : ℕ) → cost ≡ listed_cost es
    → (o : Option Item) → lookup (pointwise nat_eq key) es ≡ o →
    (freed_by o (length key) ≤ cost)
    × (cost + entry_cost (key, item) - freed_by o (length key)
    ≡ listed_cost ((key, item) ∷ remove_entry (pointwise nat_eq key) es))
put_cost es key item cost counted (Some old) is =
    let whole = cost_cons (key, item) (remove_entry (pointwise nat_eq key) es) in
    let left = (finds es key old is).cost in
    (omega arith, omega arith)
put_cost es key item cost counted None is =
    let whole = cost_cons (key, item) (remove_entry (pointwise nat_eq key) es) in
    let same_list = ap listed_cost (not_found es key is).1 in
    (omega arith, omega arith)

-- When an item is put first under a key that isn't empty, and others go for it, what is left fits the budget.
pub counted_put : (es : List ListedItem) (capacity cost budget : ℕ) (key : List ℕ) (item : Item)
    → IsCounted es capacity cost budget → 0 < length key
    → IsCounted (within budget ((key, item) ∷ remove_entry (pointwise nat_eq key) es)) capacity
    (listed_cost (within budget ((key, item) ∷ remove_entry (pointwise nat_eq key) es))) budget
counted_put es capacity cost budget key item h some =
    let left = remove_entry (pointwise nat_eq key) es in
    let keys = keys_within budget ((key, item) ∷ left)
    (All-cons HasKey (key, item) left some (keys_removed es key h.keys)) in
    let fits = cost_within budget ((key, item) ∷ left) in
    assumption
