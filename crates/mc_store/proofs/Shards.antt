-- What each change of the list does to the state that it shows.
use Rattle.std.proofs.Common.{◌≡◌, ℕ, ◌+◌, ◌%◌, ◌^◌, ◌<◌, ◌≤◌, true, false, ◌⊎◌, List, [], ◌∷◌, Option, Some, None}
use Rattle.std.proofs.Common.{refl, sym, ap, ◌∙◌, inl, inr, arith, nat_eq}
use Rattle.std.specs.Option.{option_map}
use Rattle.std.specs.Cmp.Lexicographic.{pointwise, texts_ties}
use Rattle.std.specs.FinMap.{get, insert, remove}
use Rattle.std.specs.Map.{lookup, remove_entry, set_value}
use Rattle.std.proofs.lemmas.Bool.{cases_Bool}
use Rattle.lru.specs.LruCache.{promoted}
use Rattle.mc_item.specs.declared.item.Item.{Item}
use Rattle.mc_item.specs.Expiry.{is_dead}
use Rattle.mc_store.specs.internal.Found.{live, given_after}
use Rattle.mc_store.specs.internal.Listed.{gone, within}
use Rattle.mc_store.specs.State.{Used, Items, State, is_dead_at, with_items, without_dead, first, cost, costs, fitting}
use Rattle.mc_store.specs.State.{evicting, with_given}
use Rattle.mc_store.specs.Shard.{AllBelow, Shows, ShardContents, Keeps}
use Rattle.mc_store.proofs.Lists.{same, used, same_is, not_same, get_nothing, get_gone, get_here, get_other, get_apart}
use Rattle.mc_store.proofs.Lists.{inserted_all, insert_gone, insert_apart, remove_none, AllBelow-remove, lookup-Shows}
use Rattle.mc_store.proofs.Lists.{len-Shows, Shows-remove, Shows-first}
use Rattle.mc_store.proofs.Listed.{first_is, cost_within}
use Rattle.mc_store.proofs.Costs.{costs_with, costs_inserted, costs_shown, AllBelow-fitting, fitting_is, Shows-within}

-- Numbers below those to come

AllBelow-insert : (m : Items) (key : List ℕ) (item : Item) (n : ℕ) → AllBelow m n
    → AllBelow (insert m key (used item n)) (n + 1)
AllBelow-insert m key item n below =
    inserted_all m key (used item n) (λ _ v. v.number < n + 1) (omega arith) (λ q v h. omega (arith, below q v h))

-- Changes of what a shard holds

-- what a shard holds, with these items instead
abbrev pub with_entries : ShardContents → List (List ℕ × Item) → ShardContents
with_entries held es = record held { entries = es }

-- once an item was put first, and others went for it
abbrev pub with_put : ShardContents → List ℕ → Item → ShardContents
with_put held key item =
    let es = (key, item) ∷ remove_entry (pointwise nat_eq key) held.entries in
    record held { entries = within held.budget es; evicted = (held.evicted + gone held.budget es) % 2 ^ 64 }

-- the item, last accessed at this time
abbrev pub at_now : Item → ℕ → Item
at_now item time = record item { last_access = time }

-- an item in place of another, or new, with the next number
numbered_first : (es : List (List ℕ × Item)) (m : Items) (n : ℕ) (key : List ℕ) (item : Item) → Shows es m
    → AllBelow m n → Shows ((key, item) ∷ remove_entry (pointwise nat_eq key) es) (insert m key (used item n))
numbered_first es m n key item h below =
    Shows-first (remove_entry (pointwise nat_eq key) es) m key item n (Shows-remove es m key h)
    (AllBelow-remove m key n below)

-- an item that enters, before which others go
pub put_first : (held : ShardContents) (state : State) (key : List ℕ) (item : Item) → Keeps held state
    → cost key item.value ≤ state.budget
    → Keeps (with_put held key (at_now item state.time)) (evicting (first state key item) key)
put_first held state key item h small =
    let n = state.uses + 1 in
    let it = at_now item state.time in
    let new = insert state.items key (used it n) in
    let es = (key, it) ∷ remove_entry (pointwise nat_eq key) held.entries in
    let others : AllBelow (remove new key) n =
    rw (insert_gone state.items key (used it n)) (AllBelow-remove state.items key n h.below) in
    let first_shown = numbered_first held.entries state.items n key it h.order h.below in
    let stays = fitting_is new key (used it n) (get_here state.items key (used it n)) others state.budget small in
    let shown : Shows (within state.budget es) (fitting new state.budget key) =
    rw stays (Shows-within state.budget es new first_shown) in
    let order : Shows (within held.budget es) (fitting new state.budget key) = rw (← h.budget) shown in
    let below = AllBelow-fitting new state.budget key (n + 1) (AllBelow-insert state.items key it n h.below) in
    let fits : costs (fitting new state.budget key) ≤ state.budget =
    rw (costs_shown (within state.budget es) (fitting new state.budget key) shown) (cost_within state.budget es) in
    let evicted : (evicting (first state key item) key).evicted ≡ (with_put held key it).evicted =
    rw (h.evicted, len-Shows es new first_shown, len-Shows (within held.budget es) (fitting new state.budget key) order)
    in
    assumption

pub item_at : (held : ShardContents) (state : State) (key : List ℕ) (u : Used) → Keeps held state → get state.items key
    ≡ Some u → lookup (pointwise nat_eq key) held.entries ≡ Some u.item
item_at held state key u h is =
    lookup-Shows held.entries state.items h.order key ∙ ap (λ o. option_map (λ v. v.item) o) is

-- another item with the same value costs the same
costs_same : (m : Items) (key : List ℕ) (u v : Used) → get m key ≡ Some u → v.item.value ≡ u.item.value
    → costs (insert m key v) ≡ costs m
costs_same m key u v is value =
    costs_inserted m key v ∙ ap (λ l. cost key l + costs (remove m key)) value ∙ sym (costs_with m key u is)

-- an item that is used
pub use_first : (held : ShardContents) (state : State) (key : List ℕ) (u : Used) (item : Item) → Keeps held state
    → get state.items key ≡ Some u → item.value ≡ u.item.value →
    Keeps (with_entries held
    (set_value (pointwise nat_eq key) (promoted (pointwise nat_eq key) held.entries) (at_now item state.time))) (first
    state key item)
use_first held state key u item h is value =
    let n = state.uses + 1 in
    let it = at_now item state.time in
    let below = AllBelow-insert state.items key it n h.below in
    let fits : costs (insert state.items key (used it n)) ≤ state.budget =
    rw (costs_same state.items key u (used it n) is value) h.fits in
    rw (first_is held.entries key u.item it (item_at held state key u h is))
    (assumption (numbered_first held.entries state.items n key it h.order h.below))

-- an item that changes in place
AllBelow-replace : (m : Items) (key : List ℕ) (u : Used) (item : Item) (n : ℕ) → AllBelow m n → get m key ≡ Some u
    → AllBelow (insert m key (record u { item = item })) n
AllBelow-replace m key u item n below is =
    inserted_all m key (record u { item = item }) (λ _ v. v.number < n) (below key u is) below

at_head : (e : List ℕ × Item) (es : List (List ℕ × Item)) (m : Items) (u : Used) (item : Item) → Shows (e ∷ es) m
    → get m e.0 ≡ Some u → Shows ((e.0, item) ∷ es) (insert m e.0 (record u { item = item }))
at_head e es m u item h is =
    let both : used e.1 h.0 ≡ u = (let there = h.1 in cc) in
    let number : h.0 ≡ u.number = ap (λ v. v.number) both in
    Shows-first es m e.0 item u.number h.3 (rw (← number) h.2)

Shows-set_value : (es : List (List ℕ × Item)) (m : Items) (key : List ℕ) (u : Used) (item : Item) → Shows es m
    → get m key ≡ Some u → Shows (set_value (pointwise nat_eq key) es item) (insert m key (record u { item = item }))
Shows-set_value [] m key u item h is = absurd (let none = rw (h, get_nothing key) at is in cc)
Shows-set_value (e ∷ es) m key u item h is = elim (cases_Bool (same key e.0)) [
  | inl t ↦ rw (texts_ties key e.0, t, same_is key e.0 t) (at_head e es m u item h (rw (same_is key e.0 t) at is))
  | inr f ↦
      let apart = not_same key e.0 f in
      let swapped = insert_apart m key e.0 (record u { item = item }) apart in
      let there : get (remove m e.0) key ≡ Some u = get_apart m e.0 key f ∙ is in
      rw (texts_ties key e.0, f) (
        h.0,
        get_other m key e.0 (record u { item = item }) apart ∙ h.1,
        rw swapped (AllBelow-replace (remove m e.0) key u item h.0 h.2 there),
        rw swapped (Shows-set_value es (remove m e.0) key u item h.3 there),
      )
]

-- When an item changes in place and keeps its value, the shard shows the state with the changed one.
pub set_in_place : (held : ShardContents) (state : State) (key : List ℕ) (u : Used) (item : Item) → Keeps held state
    → get state.items key ≡ Some u → item.value ≡ u.item.value
    → Keeps (with_entries held (set_value (pointwise nat_eq key) held.entries item))
    (with_items state (insert state.items key (record u { item = item })))
set_in_place held state key u item h is value =
    let order = Shows-set_value held.entries state.items key u item h.order is in
    let below = AllBelow-replace state.items key u item (state.uses + 1) h.below is in
    let fits : costs (insert state.items key (record u { item = item })) ≤ state.budget =
    rw (costs_same state.items key u (record u { item = item }) is value) h.fits in
    assumption

-- an item that is removed, or was not there
costs_less : (m : Items) (key : List ℕ) (o : Option Used) → get m key ≡ o → costs (remove m key) ≤ costs m
costs_less m key None none = rw (remove_none m key none) (omega arith)
costs_less m key (Some u) is = omega (arith, costs_with m key u is)

-- When what is under a key is removed, the shard shows the state without it.
pub take_out : (held : ShardContents) (state : State) (key : List ℕ) → Keeps held state
    → Keeps (with_entries held (remove_entry (pointwise nat_eq key) held.entries))
    (with_items state (remove state.items key))
take_out held state key h =
    let order = Shows-remove held.entries state.items key h.order in
    let below = AllBelow-remove state.items key (state.uses + 1) h.below in
    let fits : costs (remove state.items key) ≤ state.budget =
    omega (arith, costs_less state.items key (get state.items key) refl) in
    assumption

-- the state once a unique was given, by the client or by the shard
abbrev pub giving : Option ℕ → State → State
giving (Some token) state = state
giving None state = with_given state

-- Once a unique is given, the shard shows the state in which it is counted, unless it is the client's.
pub gives : (held : ShardContents) (state : State) (token : Option ℕ) → Keeps held state
    → Keeps (record held { given = given_after token held.given }) (giving token state)
gives held state (Some token) h = h
gives held state None h = assumption (ap (λ (n : ℕ). n + 1) h.given)

-- Settling the key

-- the item under the key is alive: nothing changes
pub record Meets (held : ShardContents) (state : State) (key : List ℕ) (item : Item) : Type 0 where
  pub used : Used
  pub found : get state.items key ≡ Some used
  pub item_is : used.item ≡ item
  pub settled : without_dead state (Some key) ≡ state

-- An item that is found alive is there and isn't dead.
pub live_item : (time : ℕ) (o : Option Item) (item : Item) → Some item ≡ live time o → (o ≡ Some item)
    × (is_dead item.expiry time ≡ false)
live_item time None item h = absurd cc
live_item time (Some other) item h = elim (cases_Bool (is_dead other.expiry time)) [
  | inl t ↦ absurd (let h' = rw t at h in cc)
  | inr f ↦ let h' = rw f at h in let same_item : other ≡ item = cc in (ap (λ i. Some i) same_item, rw (← same_item) f)
]

used_of : (o : Option Used) (item : Item) → option_map (λ u. u.item) o ≡ Some item → (u : Used) × (o ≡ Some u)
    × (u.item ≡ item)
used_of None item h = absurd cc
used_of (Some u) item h = (u, refl, cc)

-- Where a live item is under the key, the state has it too, and settling changes nothing.
pub meets : (held : ShardContents) (state : State) (key : List ℕ) (item : Item) → Keeps held state → Some item
    ≡ live held.time (lookup (pointwise nat_eq key) held.entries) → Meets held state key item
meets held state key item h is =
    let alive = live_item held.time (lookup (pointwise nat_eq key) held.entries) item is in
    let u = used_of (get state.items key) item (sym (lookup-Shows held.entries state.items h.order key) ∙ alive.0) in
    record { used = u.0; found = u.1; item_is = u.2; settled = rw (u.1, h.time, u.2, alive.1) }

-- nothing alive is under the key: what is there is removed
pub record Misses (held : ShardContents) (state : State) (key : List ℕ) : Type 0 where
  pub gone : get (without_dead state (Some key)).items key ≡ None
  pub settled : without_dead state (Some key) ≡ with_items state (remove state.items key)

dead_or_none : (time : ℕ) (o : Option Used) → None ≡ live time (option_map (λ u. u.item) o) → (o ≡ None)
    ⊎ (is_dead_at time o ≡ true)
dead_or_none time None h = inl refl
dead_or_none time (Some u) h = elim (cases_Bool (is_dead u.item.expiry time)) [
  | inl t ↦ inr t
  | inr f ↦ absurd (let h' = rw f at h in cc)
]

gone_by : (held : ShardContents) (state : State) (key : List ℕ) → without_dead state (Some key)
    ≡ with_items state (remove state.items key) → Misses held state key
gone_by held state key is = record { gone = rw is (get_gone state.items key); settled = is }

-- Where nothing alive is under the key, settling leaves nothing there.
pub misses : (held : ShardContents) (state : State) (key : List ℕ) → Keeps held state → None
    ≡ live held.time (lookup (pointwise nat_eq key) held.entries) → Misses held state key
misses held state key h none =
    elim (dead_or_none state.time (get state.items key)
    (rw (h.time, ← lookup-Shows held.entries state.items h.order key) none)) [
      | inl absent ↦ gone_by held state key (rw (absent, remove_none state.items key absent))
      | inr dead ↦ gone_by held state key (rw dead)
    ]
