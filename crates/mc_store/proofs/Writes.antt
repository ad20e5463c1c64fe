-- What is written under a key, whatever is there: it gets the next unique.
use Rattle.std.proofs.Common.{◌≡◌, ℕ, ◌+◌, ◌*◌, ◌^◌, ◌≤◌, Bool, true, false, List, length, Option, Some, None, refl}
use Rattle.std.proofs.Common.{sym, ap, ◌∙◌, inl, inr, nat_lt, subst}
use Rattle.std.specs.Option.{IsSome, option_map}
use Rattle.std.specs.FinMap.{get, remove}
use Rattle.std.specs.Prelude.{◌||◌, if◌then◌else◌}
use Rattle.std.proofs.lemmas.Bool.{cases_Bool, ltb-false, or_parts}
use Rattle.std.proofs.lemmas.Option.{cond_some}
use Rattle.mc_item.specs.declared.item.Item.{Item}
use Rattle.mc_item.specs.Expiry.{is_dead}
use Rattle.mc_item.specs.declared.answer.Answer.{Answer}
use Rattle.mc_item.specs.declared.answer.Answer.TheVariants.{NoCas, NoMemory, TooLarge}
use Rattle.mc_store.specs.Rows.{done_of}
use Rattle.mc_store.specs.State.{Used, State, with_items, without_dead, item_overhead, cost, first, evicting, looked}
use Rattle.mc_store.specs.State.{with_turn, entered, next_unique, with_given}
use Rattle.mc_store.specs.internal.Found.{unique_for, given_after}
use Rattle.mc_store.specs.Step.{Outcome, Reply, numbered, is_too_large, writes}
use Rattle.mc_store.specs.Shard.{ShardContents, Keeps}
use Rattle.mc_store.specs.internal.Parts.{IsOutcome}
use Rattle.mc_store.proofs.Lists.{used, insert-remove}
use Rattle.mc_store.proofs.Shards.{at_now, with_put, put_first, giving, gives}

-- what is held now shows a state that the outcome may have led to
abbrev pub Closes : State → Outcome → Answer → ShardContents → Type 0
Closes settled outcome answer new = (after : State) × IsOutcome settled outcome answer after × Keeps new after

-- The two states that settling a key may lead to
pub by_met : (P : State → Type 0) (state : State) (key : List ℕ) → P state
    → ((u : Used) → get state.items key ≡ Some u → P (with_items state (remove state.items key)))
    → P (without_dead state (Some key))
by_met P state key stays goes = go (get state.items key) refl where
  go : (o : Option Used) → get state.items key ≡ o → P (without_dead state (Some key))
  go None h = rw h stays
  go (Some u) h =
      elim (cases_Bool (is_dead u.item.expiry state.time)) [ inl t ↦ rw (h, t) (goes u h) | inr f ↦ rw (h, f) stays ]

-- Settling a key leaves the time as it is.
pub met_time : (state : State) (key : List ℕ) → (without_dead state (Some key)).time ≡ state.time
met_time state key = by_met (λ s. s.time ≡ state.time) state key refl (λ _ _. refl)

-- the unique that the shard gives next, by what it holds
abbrev pub next_of : ShardContents → ℕ
next_of held = held.index + 1 + held.shards * held.given

held_unique : (held : ShardContents) (state : State) (key : List ℕ) → Keeps held state
    → next_unique (without_dead state (Some key)) ≡ next_of held
held_unique held state key h =
    by_met (λ s. next_unique s ≡ next_of held) state key (rw (h.index, h.shards, h.given))
    (λ _ _. rw (h.index, h.shards, h.given))

-- The outcome with a unique, or without one

no_unique : (b : Bool) (next : ℕ) → (if b then Some next else None) ≡ None → b ≡ false
no_unique true next h = absurd cc
no_unique false next h = refl

-- Where there is a unique to give, what needs one is done with it.
pub numbered_some : (settled : State) (token : Option ℕ) (unique : ℕ) (outcome : ℕ → State → Outcome)
    → unique_for token (next_unique settled) ≡ Some unique → numbered settled token outcome
    ≡ outcome unique (giving token settled)
numbered_some settled (Some token) unique outcome is = let same_unique : token ≡ unique =
    cc in ap (λ u. outcome u settled) same_unique
numbered_some settled None unique outcome is =
    let fits = cond_some (nat_lt (next_unique settled) (2 ^ 64)) (next_unique settled) unique is in
    rw fits.0 (ap (λ u. outcome u (with_given settled)) fits.1)

-- Where there is no unique to give, nothing changes, and the answer reports that.
pub numbered_none : (settled : State) (token : Option ℕ) (outcome : ℕ → State → Outcome)
    → unique_for token (next_unique settled) ≡ None → numbered settled token outcome ≡ (NoCas, settled)
numbered_none settled (Some token) outcome is = absurd cc
numbered_none settled None outcome is = rw (no_unique (nat_lt (next_unique settled) (2 ^ 64)) (next_unique settled) is)

-- what is held shows the unique
pub unique_there : (held : ShardContents) (state : State) (key : List ℕ) (token o : Option ℕ) → Keeps held state → o
    ≡ unique_for token (next_of held) → unique_for token (next_unique (without_dead state (Some key))) ≡ o
unique_there held state key token o h is = rw (held_unique held state key h) (sym is)

-- What a shard holds shows which unique is to be given, or that there is none.
pub unique_now : (held : ShardContents) (state : State) (token o : Option ℕ) → Keeps held state → o
    ≡ unique_for token (next_of held) → unique_for token (next_unique state) ≡ o
unique_now held state token o h is = rw (h.index, h.shards, h.given) (sym is)

-- A write that finds no unique to give leaves the settled state as it is.
pub write_refused : (held : ShardContents) (state : State) (key : List ℕ) (new : ShardContents) (token : Option ℕ)
    (outcome : ℕ → State → Outcome) → Keeps held state → None ≡ unique_for token (next_of held)
    → Keeps new (without_dead state (Some key))
    → Closes (without_dead state (Some key)) (numbered (without_dead state (Some key)) token outcome) NoCas new
write_refused held state key new token outcome h none after = (
  without_dead state (Some key),
  inr (sym (numbered_none (without_dead state (Some key)) token outcome
      (unique_there held state key token None h none))),
  after,
)

-- to put an item in place of a dead one is to put it where that has gone
entered_removed : (state : State) (token : Option ℕ) (key : List ℕ) (item : Item)
    → entered (with_items state (remove state.items key)) token key item ≡ entered state token key item
entered_removed state token key item =
    ap (λ m. with_turn (looked item.unique
    (looked item.unique (evicting (record state { items = m; uses = state.uses + 1 }) key))) token key item)
    (insert-remove state.items key (used (at_now item state.time) (state.uses + 1)))

giving_removed : (state : State) (key : List ℕ) (item : Item) (token : Option ℕ)
    → entered (giving token (with_items state (remove state.items key))) token key item
    ≡ entered (giving token state) token key item
giving_removed state key item (Some token) = entered_removed state (Some token) key item
giving_removed state key item None = entered_removed (with_given state) None key item

entered_met : (state : State) (key : List ℕ) (item : Item) (token : Option ℕ)
    → entered (giving token (without_dead state (Some key))) token key item
    ≡ entered (giving token state) token key item
entered_met state key item token =
    by_met (λ s. entered (giving token s) token key item ≡ entered (giving token state) token key item) state key refl
    (λ _ _. giving_removed state key item token)

giving_keeps : (state : State) (token : Option ℕ) → ((giving token state).time ≡ state.time)
    × ((giving token state).budget ≡ state.budget)
giving_keeps state (Some token) = (refl, refl)
giving_keeps state None = (refl, refl)

-- A write that fits the budget puts its item first with a new unique, and others go for it.
pub write_placed : (held : ShardContents) (state : State) (key : List ℕ) (item : Item) (token : Option ℕ) (unique : ℕ)
    → Keeps held state → cost key item.value ≤ held.budget →
    Keeps (record (with_put held key (record item { unique = unique; last_access = held.time }))
    { given = given_after token held.given })
    (evicting (first (giving token state) key (record item { unique = unique })) key)
write_placed held state key item token unique h small =
    let new_item : Item = record item { unique = unique } in
    let same_things = giving_keeps state token in
    let time : (giving token state).time ≡ held.time = same_things.0 ∙ h.time in
    let fits : cost key item.value ≤ (giving token state).budget = rw (same_things.1, h.budget) small in
    let placed = put_first (record held { given = given_after token held.given }) (giving token state) key new_item
    (gives held state token h) fits in
    subst (λ t. Keeps (record (with_put held key (record item { unique = unique; last_access = t }))
    { given = given_after token held.given }) (evicting (first (giving token state) key new_item) key)) time placed

-- Once the next turns were looked at, and the item has its own, the write is done.
pub write_done : (held : ShardContents) (state : State) (key : List ℕ) (item : Item) (token : Option ℕ) (unique : ℕ)
    (reply : ℕ → Answer) (new : ShardContents) → Keeps held state → Some unique ≡ unique_for token (next_of held) →
    Keeps new (entered (giving token state) token key (record item { unique = unique })) →
    Closes (without_dead state (Some key))
    (numbered (without_dead state (Some key)) token
    (λ number after. (reply number, entered after token key (record item { unique = number })))) (reply unique) new
write_done held state key item token unique reply new h is shown =
    let new_item : Item = record item { unique = unique } in
    let outcome : ℕ → State → Outcome =
    λ number after. (reply number, entered after token key (record item { unique = number })) in
    let there = numbered_some (without_dead state (Some key)) token unique outcome
    (unique_there held state key token (Some unique) h is) in (
      entered (giving token state) token key new_item,
      inr (sym (there ∙ ap (λ s. (reply unique, s)) (entered_met state key new_item token))),
      shown,
    )

-- Where memory is refused before anything is put, a dead item under the key has gone, and nothing else.
pub write_refused_memory : (settled : State) (outcome : Outcome) (new : ShardContents) → Keeps new settled
    → Closes settled outcome NoMemory new
write_refused_memory settled outcome new h = (settled, inl (refl, refl), h)

none_of : (o : Option Item) → (IsSome o → ⊥) → o ≡ None
none_of None h = refl
none_of (Some item) h = absurd (h refl)

not_there : (o : Option Used) → option_map (λ u. u.item) o ≡ None → o ≡ None
not_there None h = refl
not_there (Some u) h = absurd cc

-- an outcome by another name

-- What leads to an outcome leads to the same outcome written in another way.
pub along : (settled : State) (first_outcome second_outcome : Outcome) (answer : Answer) (new : ShardContents)
    → first_outcome ≡ second_outcome → Closes settled first_outcome answer new
    → Closes settled second_outcome answer new
along settled o p answer new is closes = subst (λ q. Closes settled q answer new) is closes

-- What leads to an answer leads to the same answer written in another way.
pub as_answer : (settled : State) (outcome : Outcome) (one other : Answer) (new : ShardContents) → one ≡ other
    → Closes settled outcome one new → Closes settled outcome other new
as_answer settled outcome one other new is closes = subst (λ a. Closes settled outcome a new) is closes

-- what is held shows whether a value is too large
pub large_there : (held : ShardContents) (state : State) (key value : List ℕ) (size : ℕ) (test : Bool)
    → Keeps held state → length value ≡ size
    → (nat_lt held.limit size || nat_lt held.budget (length key + size + item_overhead)) ≡ test
    → is_too_large (without_dead state (Some key)) key value ≡ test
large_there held state key value size test h long is =
    by_met (λ s. is_too_large s key value ≡ test) state key (rw (h.limit, h.budget, long) is)
    (λ _ _. rw (h.limit, h.budget, long) is)

-- A write of a value that is too large changes nothing and is answered so.
pub too_large : (settled : State) (key : List ℕ) (token : Option ℕ) (value : List ℕ) (item_of : ℕ → Item)
    (reply : Reply) (new : ShardContents) → is_too_large settled key value ≡ true → Keeps new settled
    → Closes settled (writes settled key token value item_of reply) TooLarge new
too_large settled key token value item_of reply new large h = (settled, inr (rw large), h)

-- an outcome of writing an item, where its value is not too large
pub writes_is : (settled : State) (key : List ℕ) (token : Option ℕ) (value : List ℕ) (item_of : ℕ → Item)
    (reply : Reply) → is_too_large settled key value ≡ false
    → numbered settled token
    (λ unique after. (reply (done_of (item_of unique) 0 settled.time), entered after token key (item_of unique)))
    ≡ writes settled key token value item_of reply
writes_is settled key token value item_of reply small = rw small

-- a value that is not too large fits the budget
pub fits_both : (limit size budget total : ℕ) → (nat_lt limit size || nat_lt budget total) ≡ false → (size ≤ limit)
    × (total ≤ budget)
fits_both limit size budget total h =
    let both = or_parts (nat_lt limit size) (nat_lt budget total) h in
    (ltb-false limit size both.0, ltb-false budget total both.1)
