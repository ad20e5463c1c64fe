-- What follows from the step, whatever the operations and their moments.
use Rattle.std.specs.Prelude.{ℕ, ◌≡◌, ◌+◌, ◌-◌, ◌<◌, ◌≤◌, ◌⊎◌, Bool, true, false, max, min, List, ◌∷◌, ◌++◌, length}
use Rattle.std.specs.Prelude.{Option, Some, None}
use Rattle.std.specs.Option.{option_map_or}
use Rattle.std.specs.FinMap.{get, insert}
use Rattle.mc_wire.specs.Limits.{latest_moment}
use Rattle.mc_item.specs.declared.item.Item.{Item}
use Rattle.mc_item.specs.declared.op.Op.{Op}
use Rattle.mc_item.specs.declared.op.Op.TheVariants.{Store, MetaStore, MetaDelete, MetaCount}
use Rattle.mc_item.specs.declared.answer.Kind.{Kind}
use Rattle.mc_item.specs.declared.answer.Kind.TheVariants as kind
use Rattle.mc_item.specs.declared.answer.Answer.{Answer}
use Rattle.mc_item.specs.declared.answer.Answer.TheVariants.{NoCas, NoMemory, Stored, Number, MetaDone, MetaHit}
use Rattle.mc_item.specs.declared.answer.MetaHit as hit
use Rattle.mc_item.specs.Kind.{kind_of, key_of, is_lawful}
use Rattle.mc_store.specs.State.{Used, Items, Turn, State, is_due, is_dead_at, settle, costs, used_since, entered}
use Rattle.mc_store.specs.State.{next_unique}
use Rattle.mc_store.specs.Step.{IsStep}

-- An answer is lawful for the kind of its operation.
abbrev pub AnswersAreLawful : Type 0
AnswersAreLawful =
    (old new : State) (op : Op) (moment : ℕ) (answer : Answer) → IsStep old op moment answer new
    → is_lawful (kind_of op) answer ≡ true

-- Where no memory is wanting, all is determined.
abbrev pub StepsAgree : Type 0
StepsAgree =
    (old one other : State) (op : Op) (moment : ℕ) (answer second : Answer) → IsStep old op moment answer one
    → IsStep old op moment second other →
    ¬ (answer ≡ NoMemory) → ¬ (second ≡ NoMemory) → (answer ≡ second) × (one ≡ other)

-- Other items

-- The item under the key is as it was, or it is gone and there is a reason for that.
abbrev pub StaysUnless : Type 0 → Items → Items → List ℕ → Type 0
StaysUnless reason old new key = (get new key ≡ get old key) ⊎ ((get new key ≡ None) × reason)

-- The answer reports that an item was stored: by storing, by counting, or by mg under a key that was absent.
abbrev pub tells_stored : Answer → Option Used → Bool
tells_stored Stored before = true
tells_stored (Number number) before = true
tells_stored (MetaDone done) before = true
tells_stored (MetaHit hit) None = true
tells_stored _ before = false

-- An item was stored under the operation's key, and is there. With it, what was used no earlier than the item under
-- the other key costs more than the budget.
pub record IsEvicted (settled : State) (key : Option (List ℕ)) (answer : Answer) (new : Items) (other : List ℕ) : Type 0
  where
    pub asked : List ℕ
    pub key_is : key ≡ Some asked
    pub told : tells_stored answer (get settled.items asked) ≡ true
    pub stored : Used
    pub stands : get new asked ≡ Some stored
    pub too_much : settled.budget < costs (used_since (insert settled.items asked stored) other)

-- An item was stored under the operation's key, and the item under the other key was dead then.
pub record IsReclaimed (settled : State) (key : Option (List ℕ)) (answer : Answer) (other : List ℕ) : Type 0 where
  pub asked : List ℕ
  pub key_is : key ≡ Some asked
  pub told : tells_stored answer (get settled.items asked) ≡ true
  pub dead : is_dead_at settled.time (get settled.items other) ≡ true

-- A pending flush was due, or the operation is a flush.
abbrev pub IsFlushed : State → Op → ℕ → Type 0
IsFlushed old op moment =
    (is_due old.flush (max old.time (min moment latest_moment)) ≡ true) ⊎ (kind_of op ≡ kind.Flush)

-- No operation changes an item under another key, but by a flush, by eviction for the item that it stored, or, where it
-- stored one, because the other was dead.
abbrev pub OthersStay : Type 0
OthersStay =
    (old new : State) (op : Op) (moment : ℕ) (answer : Answer) → IsStep old op moment answer new → (other : List ℕ)
    → ¬ (key_of op ≡ Some other) →
    StaysUnless
    (IsFlushed old op moment
    ⊎ (IsEvicted (settle old (key_of op) moment) (key_of op) answer new.items other
    ⊎ IsReclaimed (settle old (key_of op) moment) (key_of op) answer other)) old.items new.items other

-- Dead items

-- The turn waits, behind this many others.
pub record Waits (state : State) (turn : Turn) (ahead : ℕ) : Type 0 where
  pub before : List Turn
  pub after : List Turn
  pub turns : state.turns ≡ before ++ turn ∷ after
  pub place : length before ≡ ahead

-- Whenever an item enters, a dead one whose turn waits is gone then, or its turn comes two places nearer. So it is gone
-- once half as many items entered as turns wait ahead of it, and one more. The item that enters has another key and
-- another unique.
abbrev pub DeadGo : Type 0
DeadGo =
    (state : State) (token : Option ℕ) (key : List ℕ) (item : Item) (turn : Turn) (ahead : ℕ) (used : Used)
    → get state.items turn.0 ≡ Some used → used.item.unique ≡ turn.1 →
    is_dead_at state.time (Some used) ≡ true → ¬ (turn.0 ≡ key) → ¬ (turn.1 ≡ item.unique) → Waits state turn ahead →
    (get (entered state token key item).items turn.0 ≡ None)
    ⊎ ((2 ≤ ahead) × Waits (entered state token key item) turn (ahead - 2))

-- Uniques

-- A step gives one unique or none, and those that a shard gives rise.
abbrev pub UniquesRise : Type 0
UniquesRise =
    (old new : State) (op : Op) (moment : ℕ) (answer : Answer) → IsStep old op moment answer new
    → (new.given ≡ old.given) ⊎ (new.given ≡ old.given + 1)

-- No two shards of one number of shards ever give the same unique, nor does one give it twice.
abbrev pub UniquesDiffer : Type 0
UniquesDiffer = (one other : State) → one.shards ≡ other.shards → one.index < one.shards → other.index < other.shards →
    next_unique one ≡ next_unique other → (one.index ≡ other.index) × (one.given ≡ other.given)

-- the unique, the value and the flags are the same
pub record SameStored (before after : Item) : Type 0 where
  pub unique : after.unique ≡ before.unique
  pub value : after.value ≡ before.value
  pub flags : after.flags ≡ before.flags

-- Such an item was there under the key.
abbrev pub IsKept : Items → List ℕ → Item → Type 0
IsKept old key item = (before : Used) × (get old key ≡ Some before) × SameStored before.item item

-- the unique that a client gives, by the flag E
abbrev pub token_of : Op → Option ℕ
token_of (Store asked) = asked.unique
token_of (MetaStore asked) = asked.unique
token_of (MetaDelete asked) = asked.unique
token_of (MetaCount asked) = asked.unique
token_of _ = None

-- The shard gave a unique, and the item has it; or the client gave one, and the item has that.
abbrev pub HasNewUnique : State → State → Option ℕ → Item → Type 0
HasNewUnique old new token item =
    ((item.unique ≡ next_unique old) × (new.given ≡ old.given + 1)) ⊎ (token ≡ Some item.unique)

-- Whatever a step changes in what an item stores, it gives the item a new unique: the shard's next one, or the
-- client's.
abbrev pub UniquesTell : Type 0
UniquesTell =
    (old new : State) (op : Op) (moment : ℕ) (answer : Answer) → IsStep old op moment answer new
    → (key : List ℕ) (used : Used) → get new.items key ≡ Some used →
    IsKept old.items key used.item ⊎ HasNewUnique old new (token_of op) used.item

-- Where the client gives a unique, the shard gives none, and none is wanting.
abbrev pub TokensAreTaken : Type 0
TokensAreTaken =
    (old new : State) (op : Op) (moment : ℕ) (answer : Answer) (token : ℕ) → IsStep old op moment answer new
    → token_of op ≡ Some token →
    (new.given ≡ old.given) × ¬ (answer ≡ NoCas)

-- Time

-- The time never goes back, and stays at or below the latest one.
abbrev pub TimeRises : Type 0
TimeRises =
    (old new : State) (op : Op) (moment : ℕ) (answer : Answer) → IsStep old op moment answer new → new.time
    ≡ max old.time (min moment latest_moment)

-- Who is to recompute

-- whether there is an item under the key that some client is to recompute
abbrev pub is_sent : Items → List ℕ → Bool
is_sent items key = option_map_or (λ used. used.item.sent) (get items key) false

-- A hit with W is of an item that no client was to recompute, or that was made then; then one is.
abbrev pub WinnersAreFirst : Type 0
WinnersAreFirst =
    (old new : State) (op : Op) (moment : ℕ) (shown : hit.MetaHit) → IsStep old op moment (MetaHit shown) new
    → shown.marks.won ≡ true → (key : List ℕ) → key_of op ≡ Some key →
    (is_sent (settle old (key_of op) moment).items key ≡ false) × (is_sent new.items key ≡ true)

-- the kinds that take that mark away from the item that they store or mark stale
abbrev pub may_clear_sent : Kind → Bool
may_clear_sent kind.Store = true
may_clear_sent kind.MetaStore = true
may_clear_sent kind.MetaDelete = true
may_clear_sent _ = false

-- No other kind takes it away, but with the item.
abbrev pub SentStays : Type 0
SentStays =
    (old new : State) (op : Op) (moment : ℕ) (answer : Answer) → IsStep old op moment answer new
    → may_clear_sent (kind_of op) ≡ false → (key : List ℕ) →
    is_sent (settle old (key_of op) moment).items key ≡ true → (get new.items key ≡ None)
    ⊎ (is_sent new.items key ≡ true)
