-- What a look at the next turn does to the items and the turns, and that the shard shows the state then.
use Rattle.std.proofs.Common.{◌≡◌, ℕ, Bool, true, false, ◌⊎◌, List, [], ◌∷◌, ◌++◌, length, drop, Option, Some, None}
use Rattle.std.proofs.Common.{is_none, refl, sym, ap, ◌∙◌, inl, inr, arith, nat_eq}
use Rattle.std.specs.Prelude.{not, ◌&&◌, ◌==◌, if◌then◌else◌}
use Rattle.std.specs.Option.{option_map, option_map_or}
use Rattle.std.specs.Cmp.Lexicographic.{pointwise}
use Rattle.std.specs.FinMap.{get, remove}
use Rattle.std.specs.Map.{lookup, remove_entry}
use Rattle.std.proofs.lemmas.Bool.{cases_Bool, both_ways, and_parts, eq-eqb, eqb-true, not-true}
use Rattle.mc_item.specs.declared.item.Item.{Item}
use Rattle.mc_item.specs.Expiry.{is_dead}
use Rattle.mc_item.specs.OpStats.{reclaimed_in}
use Rattle.mc_store.specs.State.{Used, Items, Turn, State, is_dead_at, is_of_turn, is_reclaimed, items_after}
use Rattle.mc_store.specs.State.{op_stats_after, turns_after, was_fetched, looked, expires, with_turn}
use Rattle.mc_store.specs.internal.Found.{turn_of}
use Rattle.mc_store.specs.Shard.{ShardContents, Keeps}
use Rattle.mc_store.proofs.Lists.{by_key, get_gone, get_apart, lookup-Shows}
use Rattle.mc_store.proofs.Shards.{take_out}

-- What a look does to the shard

-- whether an item that the list finds is the one of the turn
abbrev pub is_its : Turn → Option Item → Bool
is_its turn found = option_map_or (λ item. item.unique == turn.1) found false

its_mapped : (turn : Turn) (o : Option Used) → is_of_turn turn o ≡ is_its turn (option_map (λ u. u.item) o)
its_mapped turn None = refl
its_mapped turn (Some u) = refl

dead_mapped : (time : ℕ) (o : Option Used) → is_dead_at time o
    ≡ option_map_or (λ (item : Item). is_dead item.expiry time) (option_map (λ u. u.item) o) false
dead_mapped time None = refl
dead_mapped time (Some u) = refl

-- The list shows whether the item under a turn's key is its own.
pub its_listed : (held : ShardContents) (state : State) (turn : Turn) (o : Option Item) → Keeps held state → o
    ≡ lookup (pointwise nat_eq turn.0) held.entries → is_of_turn turn (get state.items turn.0) ≡ is_its turn o
its_listed held state turn o h is =
    its_mapped turn (get state.items turn.0)
    ∙ ap (is_its turn) (sym (lookup-Shows held.entries state.items h.order turn.0) ∙ sym is)

-- The list shows whether it is dead.
pub dead_listed : (held : ShardContents) (state : State) (turn : Turn) (item : Item) → Keeps held state → Some item
    ≡ lookup (pointwise nat_eq turn.0) held.entries → is_dead_at state.time (get state.items turn.0)
    ≡ is_dead item.expiry held.time
dead_listed held state turn item h is =
    dead_mapped state.time (get state.items turn.0)
    ∙ ap (λ o. option_map_or (λ (i : Item). is_dead i.expiry state.time) o false)
    (sym (lookup-Shows held.entries state.items h.order turn.0) ∙ sym is)
    ∙ ap (λ t. is_dead item.expiry t) h.time

fetched_mapped : (o : Option Used) → was_fetched o
    ≡ option_map_or (λ (item : Item). item.fetched) (option_map (λ u. u.item) o) false
fetched_mapped None = refl
fetched_mapped (Some u) = refl

-- The list shows whether it was fetched.
pub fetched_listed : (held : ShardContents) (state : State) (turn : Turn) (item : Item) → Keeps held state → Some item
    ≡ lookup (pointwise nat_eq turn.0) held.entries → was_fetched (get state.items turn.0) ≡ item.fetched
fetched_listed held state turn item h is =
    fetched_mapped (get state.items turn.0)
    ∙ ap (λ o. option_map_or (λ (i : Item). i.fetched) o false)
    (sym (lookup-Shows held.entries state.items h.order turn.0) ∙ sym is)

-- a list that is its own rest is empty
its_own_rest : (turns : List Turn) → turns ≡ drop 1 turns → turns ≡ []
its_own_rest [] is = refl
its_own_rest (turn ∷ rest) is = absurd (let longer : length (turn ∷ rest) ≡ length rest = ap length is in omega arith)

-- Where no turn waits, a look changes nothing.
pub look_none : (held : ShardContents) (state : State) (entering : ℕ) (left : List Turn) → Keeps held state → held.turns
    ≡ left → left ≡ drop 1 held.turns → Keeps (record held { turns = left }) (looked entering state)
unfolding items_after op_stats_after turns_after
look_none held state entering left h is rest =
    let none : held.turns ≡ [] = its_own_rest held.turns (is ∙ rest) in
    let turns : state.turns ≡ [] = h.turns ∙ none in
    let empty : left ≡ [] = sym is ∙ none in
    rw (turns, empty) (assumption)

-- a list without a length is empty
pub none_long : (turns : List Turn) → length turns ≡ 0 → turns ≡ []
none_long [] is = refl
none_long (turn ∷ rest) is = absurd (omega (arith, is))

-- Where no turn waits, two looks change nothing.
pub two_looks_none : (held : ShardContents) (state : State) (entering : ℕ) → Keeps held state → held.turns ≡ [] →
    Keeps held (looked entering (looked entering state))
two_looks_none held state entering h none =
    let rest : held.turns ≡ drop 1 held.turns = rw none refl in
    look_none held (looked entering state) entering held.turns
    (look_none held state entering held.turns h refl rest) refl rest

-- Where the item under the turn's key isn't its own, or there is none, the turn is dropped.
pub look_drops : (held : ShardContents) (state : State) (entering : ℕ) (turn : Turn) (rest : List Turn)
    → Keeps held state → held.turns ≡ turn ∷ rest →
    is_of_turn turn (get state.items turn.0) ≡ false → Keeps (record held { turns = rest }) (looked entering state)
unfolding items_after op_stats_after turns_after
look_drops held state entering turn rest h is other =
    let turns : state.turns ≡ turn ∷ rest = h.turns ∙ is in
    rw (turns, other) (assumption)

-- Where the turn's item is dead, and isn't the one that enters, both go, and the item is counted.
pub look_takes : (held : ShardContents) (state : State) (entering : ℕ) (turn : Turn) (rest : List Turn) (fetched : Bool)
    → Keeps held state → held.turns ≡ turn ∷ rest →
    is_of_turn turn (get state.items turn.0) ≡ true → is_dead_at state.time (get state.items turn.0) ≡ true
    → (turn.1 == entering) ≡ false → was_fetched (get state.items turn.0) ≡ fetched →
    Keeps (record held {
      entries = remove_entry (pointwise nat_eq turn.0) held.entries;
      turns = rest;
      op_stats = reclaimed_in held.op_stats fetched;
    }) (looked entering state)
unfolding items_after op_stats_after turns_after
look_takes held state entering turn rest fetched h is own dead apart used =
    let turns : state.turns ≡ turn ∷ rest = h.turns ∙ is in
    let op_stats : reclaimed_in state.op_stats fetched ≡ reclaimed_in held.op_stats fetched =
    ap (λ t. reclaimed_in t fetched) h.op_stats in
    let out = take_out held state turn.0 h in
    rw (turns, own, dead, apart, used) (assumption (out, op_stats))

-- Where the turn's item stays, the turn comes again after all others.
pub look_keeps : (held : ShardContents) (state : State) (entering : ℕ) (turn : Turn) (rest : List Turn)
    → Keeps held state → held.turns ≡ turn ∷ rest →
    is_of_turn turn (get state.items turn.0) ≡ true
    → (is_dead_at state.time (get state.items turn.0) && not (turn.1 == entering)) ≡ false →
    Keeps (record held { turns = rest ++ turn ∷ [] }) (looked entering state)
unfolding items_after op_stats_after turns_after
look_keeps held state entering turn rest h is own stays =
    let turns : state.turns ≡ turn ∷ rest = h.turns ∙ is in
    rw (turns, own, stays) (assumption)

-- What the turn of the item that entered does to the shard

-- Where there is a key for a turn, it waits behind the others.
pub turn_waits : (held : ShardContents) (state : State) (token : Option ℕ) (key own : List ℕ) (item : Item) (unique : ℕ)
    → Keeps held state → Some own ≡ turn_of token key item.expiry → item.unique ≡ unique →
    Keeps (record held { turns = held.turns ++ (own, unique) ∷ [] }) (with_turn state token key item)
turn_waits held state token key own item unique h is same = by (is_none token && expires item.expiry) refl is where
  by : (b : Bool) → (is_none token && expires item.expiry) ≡ b → Some own ≡ (if b then Some key else None)
      → Keeps (record held { turns = held.turns ++ (own, unique) ∷ [] }) (with_turn state token key item)
  by true e made =
      let own_is : own ≡ key = cc in
      let turns : state.turns ++ (key, item.unique) ∷ [] ≡ held.turns ++ (own, unique) ∷ [] =
      rw (h.turns, own_is, same) refl in
      rw e (assumption)
  by false e made = absurd cc

-- Where there is none, as many wait as before.
pub no_turn_waits : (held : ShardContents) (state : State) (token : Option ℕ) (key : List ℕ) (item : Item)
    → Keeps held state → None ≡ turn_of token key item.expiry → Keeps held (with_turn state token key item)
no_turn_waits held state token key item h is = by (is_none token && expires item.expiry) refl is where
  by : (b : Bool) → (is_none token && expires item.expiry) ≡ b → None ≡ (if b then Some key else None)
      → Keeps held (with_turn state token key item)
  by true e made = absurd cc
  by false e made = rw e (assumption)

-- What a look does to an item

-- The item under a key is as it was, or it was dead and is gone.
pub after_other : (entering time : ℕ) (m : Items) (turns : List Turn) (k : List ℕ) →
    (get (items_after entering time m turns) k ≡ get m k)
    ⊎ ((get (items_after entering time m turns) k ≡ None) × (is_dead_at time (get m k) ≡ true))
unfolding items_after
after_other entering time m [] k = inl refl
after_other entering time m (turn ∷ rest) k = elim (cases_Bool (is_reclaimed entering time m turn)) [
  | inl t ↦
      let dead = (and_parts (is_dead_at time (get m turn.0)) (not (turn.1 == entering))
      (and_parts (is_of_turn turn (get m turn.0)) (is_dead_at time (get m turn.0) && not (turn.1 == entering)) t).1).0
      in
      rw t (by_key (λ q. (get (remove m turn.0) q ≡ get m q)
      ⊎ ((get (remove m turn.0) q ≡ None) × (is_dead_at time (get m q) ≡ true))) turn.0 k
      (inr (get_gone m turn.0, dead)) (λ f. inl (get_apart m turn.0 k f)))
  | inr f ↦ rw f (inl refl)
]

-- The item that enters stays.
pub after_entering : (entering time : ℕ) (m : Items) (turns : List Turn) (k : List ℕ) (u : Used) → get m k ≡ Some u
    → u.item.unique ≡ entering → get (items_after entering time m turns) k ≡ Some u
unfolding items_after
after_entering entering time m [] k u is same_unique = is
after_entering entering time m (turn ∷ rest) k u is same_unique =
    elim (cases_Bool (is_reclaimed entering time m turn)) [
      | inl t ↦
          let both = and_parts (is_of_turn turn (get m turn.0))
          (is_dead_at time (get m turn.0) && not (turn.1 == entering))
          t in
          let apart = not-true (turn.1 == entering)
          (and_parts (is_dead_at time (get m turn.0)) (not (turn.1 == entering)) both.1).1 in
          rw t (by_key (λ q. get m q ≡ Some u → get (remove m turn.0) q ≡ Some u) turn.0 k
          (λ there. let own : (u.item.unique == turn.1) ≡ true = rw there at both.0 in
          absurd (both_ways (turn.1 == entering) apart
          (eq-eqb turn.1 entering (sym (eqb-true u.item.unique turn.1 own) ∙ same_unique))))
          (λ f there. get_apart m turn.0 k f ∙ there) is)
      | inr f ↦ rw f is
    ]

-- What two looks do

-- the state once two turns were looked at
abbrev pub looked_twice : ℕ → State → State
looked_twice entering state = looked entering (looked entering state)

-- The item under a key is as it was, or it was dead and is gone.
pub twice_other : (entering : ℕ) (state : State) (k : List ℕ) →
    (get (looked_twice entering state).items k ≡ get state.items k)
    ⊎ ((get (looked_twice entering state).items k ≡ None) × (is_dead_at state.time (get state.items k) ≡ true))
twice_other entering state k =
    let once = looked entering state in
    elim (after_other entering state.time once.items once.turns k) [
      | inl second ↦ elim (after_other entering state.time state.items state.turns k) [
        | inl first ↦ inl (second ∙ first)
        | inr gone ↦ inr (second ∙ gone.0, gone.1)
      ]
      | inr second ↦ elim (after_other entering state.time state.items state.turns k) [
        | inl first ↦ inr (second.0, rw (← first) second.1)
        | inr gone ↦ inr (second.0, gone.1)
      ]
    ]

-- The item that enters stays.
pub twice_entering : (entering : ℕ) (state : State) (k : List ℕ) (u : Used) → get state.items k ≡ Some u → u.item.unique
    ≡ entering → get (looked_twice entering state).items k ≡ Some u
twice_entering entering state k u is same_unique =
    let once = looked entering state in
    after_entering entering state.time once.items once.turns k u
    (after_entering entering state.time state.items state.turns k u is same_unique) same_unique
