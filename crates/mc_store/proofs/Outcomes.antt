-- From what a look-up found to the outcome of a step, which is a function of the settled state and of the item there.
use Rattle.std.proofs.Common.{◌≡◌, ℕ, true, false, List, Option, Some, None, refl, sym, ap, ◌∙◌, inl, inr, nat_eq}
use Rattle.std.proofs.Common.{subst}
use Rattle.std.specs.Prelude.{IsTrue}
use Rattle.std.specs.Option.{IsSome}
use Rattle.std.specs.Cmp.Lexicographic.{pointwise}
use Rattle.std.specs.FinMap.{get, remove}
use Rattle.std.specs.Map.{lookup, remove_entry, set_value}
use Rattle.lru.specs.LruCache.{promoted}
use Rattle.mc_item.specs.declared.item.Item.{Item}
use Rattle.mc_item.specs.declared.op.Op.{Op}
use Rattle.mc_item.specs.declared.answer.Answer.{Answer}
use Rattle.mc_item.specs.declared.answer.Answer.TheVariants.{NoMemory}
use Rattle.mc_item.specs.Expiry.{is_dead}
use Rattle.mc_item.specs.Kind.{kind_of, is_lawful}
use Rattle.mc_store.specs.internal.Found.{live}
use Rattle.mc_store.specs.State.{Used, State, with_items, without_dead, first}
use Rattle.mc_store.specs.Step.{Outcome, Answers, step_of}
use Rattle.mc_store.specs.Shard.{ShardContents, Keeps}
use Rattle.mc_store.proofs.Shards.{with_entries, at_now, meets, misses, take_out, use_first}
use Rattle.mc_store.proofs.Changes.{settled_live}
use Rattle.mc_store.proofs.Writes.{Closes}

-- What is held now shows a state that the answer may have led to.
abbrev pub Ends : State → Op → Answer → ShardContents → Type 0
Ends settled op answer new = (after : State) × Answers settled op answer after × Keeps new after

-- the answer of an operation, from an outcome that is its step
pub ends : (settled : State) (op : Op) (answer : Answer) (new : ShardContents)
    → (answer ≡ NoMemory → IsTrue (is_lawful (kind_of op) NoMemory)) → Closes settled (step_of settled op) answer new
    → Ends settled op answer new
unfolding Answers
ends settled op answer new lawful closes =
    (closes.0, elim closes.1 [ inl none ↦ inl (none.0, lawful none.0, none.1) | inr is ↦ inr is ], closes.2)

-- a step: from the settled state and the item under the key to the outcome
abbrev pub Stepping : Type 0
Stepping = State → Option Used → Outcome

-- the outcome of a step on what the settled state has under the key
abbrev pub here : Stepping → State → List ℕ → Outcome
here step settled key = step settled (get settled.items key)

-- a fact of the item that a look-up found and of the settled state, from the same of the state
pub at_live : (held : ShardContents) (state : State) (key : List ℕ) (item : Item) → Keeps held state → Some item
    ≡ live held.time (lookup (pointwise nat_eq key) held.entries) → (P : Item → ℕ → State → Type 0)
    → ((u : Used) → get state.items key ≡ Some u → P u.item state.time state)
    → P item held.time (without_dead state (Some key))
at_live held state key item h is P found =
    let meet = meets held state key item h is in
    subst (λ s. P item held.time s) (sym meet.settled)
    (subst (λ t. P item t state) h.time (subst (λ i. P i state.time state) meet.item_is (found meet.used meet.found)))

-- nothing is there, and the dead item that was there was taken out
pub misses_as : (held : ShardContents) (state : State) (key : List ℕ) (step : Stepping) (answer : Answer)
    → Keeps held state → None ≡ live held.time (lookup (pointwise nat_eq key) held.entries)
    → ((s : State) → (answer, s) ≡ step s None) →
    Closes (without_dead state (Some key)) (here step (without_dead state (Some key)) key) answer
    (with_entries held (remove_entry (pointwise nat_eq key) held.entries))
misses_as held state key step answer h none is =
    let miss = misses held state key h none in (
      without_dead state (Some key),
      inr (is (without_dead state (Some key)) ∙ sym (ap (λ o. step (without_dead state (Some key)) o) miss.gone)),
      rw miss.settled (take_out held state key h),
    )

-- nothing is there, and what follows is an outcome of its own
pub absent_as : (held : ShardContents) (state : State) (key : List ℕ) (step : Stepping) (outcome : State → Outcome)
    → Keeps held state → None ≡ live held.time (lookup (pointwise nat_eq key) held.entries)
    → ((s : State) → outcome s ≡ step s None) →
    outcome (without_dead state (Some key)) ≡ here step (without_dead state (Some key)) key
absent_as held state key step outcome h none is =
    is (without_dead state (Some key))
    ∙ sym (ap (λ o. step (without_dead state (Some key)) o) (misses held state key h none).gone)

-- an item is there, and what follows is an outcome of its own
pub present_as : (held : ShardContents) (state : State) (key : List ℕ) (item : Item) (step : Stepping)
    (outcome : Item → ℕ → State → Outcome) → Keeps held state → Some item
    ≡ live held.time (lookup (pointwise nat_eq key) held.entries)
    → ((s : State) (u : Used) → u.item ≡ item → outcome u.item s.time s ≡ step s (Some u)) →
    outcome item held.time (without_dead state (Some key)) ≡ here step (without_dead state (Some key)) key
present_as held state key item step outcome h is same =
    at_live held state key item h is (λ i time settled. i ≡ item → outcome i time settled ≡ here step settled key)
    (λ u found i. same state u i ∙ sym (ap (λ o. step state o) found)) refl

-- an item is there and nothing changes
pub unchanged_as : (held : ShardContents) (state : State) (key : List ℕ) (item : Item) (step : Stepping)
    (answer : Answer) → Keeps held state → Some item ≡ live held.time (lookup (pointwise nat_eq key) held.entries)
    → ((s : State) (u : Used) → u.item ≡ item → (answer, s) ≡ step s (Some u)) →
    Closes (without_dead state (Some key)) (here step (without_dead state (Some key)) key) answer held
unchanged_as held state key item step answer h is same = (
  without_dead state (Some key),
  inr (present_as held state key item step (λ _ _ s. (answer, s)) h is same),
  settled_live held state key item h is,
)

-- an item is there, and memory is wanting
pub lacks_as : (held : ShardContents) (state : State) (key : List ℕ) (item : Item) (outcome : Outcome)
    → Keeps held state → Some item ≡ live held.time (lookup (pointwise nat_eq key) held.entries)
    → Closes (without_dead state (Some key)) outcome NoMemory held
lacks_as held state key item outcome h is =
    (without_dead state (Some key), inl (refl, refl), settled_live held state key item h is)

-- an item is there and becomes the first
pub uses_as : (held : ShardContents) (state : State) (key : List ℕ) (item : Item) (step : Stepping)
    (answer : Item → ℕ → Answer) (new : Item → ℕ → Item) → ((i : Item) (time : ℕ) → (new i time).value ≡ i.value)
    → Keeps held state → Some item ≡ live held.time (lookup (pointwise nat_eq key) held.entries)
    → ((s : State) (u : Used) → u.item ≡ item → (answer u.item s.time, first s key (new u.item s.time))
    ≡ step s (Some u)) →
    Closes (without_dead state (Some key)) (here step (without_dead state (Some key)) key) (answer item held.time)
    (with_entries held (set_value (pointwise nat_eq key) (promoted (pointwise nat_eq key) held.entries)
    (at_now (new item held.time) held.time)))
uses_as held state key item step answer new value h is same =
    at_live held state key item h is
    (λ i time settled. i ≡ item
    → Closes settled (here step settled key) (answer i time)
    (with_entries held (set_value (pointwise nat_eq key) (promoted (pointwise nat_eq key) held.entries)
    (at_now (new i time) time))))
    (λ u found i. (
      first state key (new u.item state.time),
      inr (same state u i ∙ sym (ap (λ o. step state o) found)),
      use_first held state key u (new u.item state.time) h found (value u.item state.time),
    )) refl

-- an item is there and is removed
pub goes_as : (held : ShardContents) (state : State) (key : List ℕ) (item : Item) (step : Stepping) (answer : Answer)
    → Keeps held state → Some item ≡ live held.time (lookup (pointwise nat_eq key) held.entries)
    → ((s : State) (u : Used) → u.item ≡ item → (answer, with_items s (remove s.items key)) ≡ step s (Some u)) →
    Closes (without_dead state (Some key)) (here step (without_dead state (Some key)) key) answer
    (with_entries held (remove_entry (pointwise nat_eq key) held.entries))
goes_as held state key item step answer h is same =
    at_live held state key item h is
    (λ i _ settled. i ≡ item
    → Closes settled (here step settled key) answer
    (with_entries held (remove_entry (pointwise nat_eq key) held.entries)))
    (λ u found i. (
      with_items state (remove state.items key),
      inr (same state u i ∙ sym (ap (λ o. step state o) found)),
      take_out held state key h,
    )) refl

-- the item that is there
pub some_of : (o : Option Item) → IsSome o → (item : Item) × (Some item ≡ o)
some_of None some = absurd cc
some_of (Some item) some = (item, refl)

-- what a look-up in the list finds, once it is known whether that is dead
pub live_of : (time : ℕ) (o : Option Item) (item : Item) → Some item ≡ o → is_dead item.expiry time ≡ false → Some item
    ≡ live time o
live_of time o item is alive = rw (← is, alive)

-- Where the item that is found is dead, it counts as none.
pub dead_of : (time : ℕ) (o : Option Item) (item : Item) → Some item ≡ o → is_dead item.expiry time ≡ true → None
    ≡ live time o
dead_of time o item is dead = rw (← is, dead)
