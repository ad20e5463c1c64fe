-- What follows of whole lists of operations, whatever they are and at whatever moments.
use Rattle.std.specs.Prelude.{ℕ, ◌≡◌, ◌+◌, ◌<◌, ◌≤◌, ◌⊎◌, ◌&&◌, Bool, false, not, List, [], ◌∷◌, Option, Some, None}
use Rattle.std.specs.Prelude.{All, Contains, if◌then◌else◌}
use Rattle.std.specs.FinMap.{get}
use Rattle.mc_wire.specs.SameKey.{same_key}
use Rattle.mc_item.specs.declared.answer.Answer.{Answer}
use Rattle.mc_item.specs.declared.answer.Answer.TheVariants.{MetaHit}
use Rattle.mc_item.specs.Kind.{key_of}
use Rattle.mc_store.specs.State.{Used, State, empty_state, settle, next_unique}
use Rattle.mc_store.specs.Runs.{TimedOp, StepsInOrder, last_of, uniques_of, IsOrderly}
use Rattle.mc_store.specs.Laws.{is_sent, token_of}

-- Every run is orderly.
abbrev pub RunsAreOrderly : Type 0
RunsAreOrderly =
    (old : State) (asked : List TimedOp) (answers : List Answer) (states : List State) → 0 < old.shards
    → StepsInOrder old asked answers states → IsOrderly old asked answers states

-- Two shards of one number of shards give no unique both.
abbrev pub RunsShareNoUnique : Type 0
RunsShareNoUnique =
    (one other : State) (asked more : List TimedOp) (answers replies : List Answer) (states after : List State) →
    StepsInOrder one asked answers states → StepsInOrder other more replies after → one.shards ≡ other.shards
    → one.index < one.shards → other.index < other.shards → ¬ (one.index ≡ other.index) →
    (unique : ℕ) → Contains (uniques_of one states) unique → Contains (uniques_of other after) unique → ⊥

-- Items

-- An item whose key no operation names is at the end as it was, or gone.
abbrev pub RunsLeaveOthers : Type 0
RunsLeaveOthers =
    (old : State) (asked : List TimedOp) (answers : List Answer) (states : List State)
    → StepsInOrder old asked answers states →
    (key : List ℕ) → All (λ (ask : TimedOp). ¬ (key_of ask.0 ≡ Some key)) asked
    → (get (last_of old states).items key ≡ get old.items key) ⊎ (get (last_of old states).items key ≡ None)

-- Each item has a unique below the next one.
abbrev pub HasGivenUniques : State → Type 0
HasGivenUniques state =
    (key : List ℕ) (used : Used) → get state.items key ≡ Some used → used.item.unique < next_unique state

-- A new shard has no item.
abbrev pub NewIsGiven : Type 0
NewIsGiven = (index shards budget given limit : ℕ) → HasGivenUniques (empty_state index shards budget given limit)

-- What cas rests on, where no client gives a unique: an item that has its unique again, or still, has its value and its
-- flags.
abbrev pub SameUniqueSameItem : Type 0
SameUniqueSameItem =
    (old : State) (asked : List TimedOp) (answers : List Answer) (states : List State)
    → StepsInOrder old asked answers states → 0 < old.shards → HasGivenUniques old →
    All (λ (ask : TimedOp). token_of ask.0 ≡ None) asked →
    HasGivenUniques (last_of old states)
    × ((key : List ℕ) (before after : Used) → get old.items key ≡ Some before → get (last_of old states).items key
    ≡ Some after →
    after.item.unique ≡ before.item.unique → (after.item.value ≡ before.item.value)
    × (after.item.flags ≡ before.item.flags))

-- Who is to recompute

abbrev pub one_if : Bool → ℕ
one_if test = if test then 1 else 0

-- whether the answer is a hit whose client is to recompute
abbrev pub is_telling : Answer → Bool
is_telling (MetaHit hit) = hit.marks.won
is_telling _ = false

abbrev pub is_asked : Option (List ℕ) → List ℕ → Bool
is_asked None key = false
is_asked (Some asked) key = same_key asked key

-- how many clients were asked to recompute the item under the key
abbrev pub told : List ℕ → List TimedOp → List Answer → ℕ
told key [] answers = 0
told key (ask ∷ rest) [] = 0
told key (ask ∷ rest) (answer ∷ answers) =
    one_if (is_asked (key_of ask.0) key && is_telling answer) + told key rest answers

-- how often the mark that a client is to recompute was taken from the item under the key, alone or with the item: as
-- the shard settled, or by the operation
abbrev pub cleared : List ℕ → State → List TimedOp → List State → ℕ
cleared key old [] states = 0
cleared key old (ask ∷ rest) [] = 0
cleared key old (ask ∷ rest) (new ∷ states) =
    one_if (is_sent old.items key && not (is_sent (settle old (key_of ask.0) ask.1).items key))
    + (one_if (is_sent (settle old (key_of ask.0) ask.1).items key && not (is_sent new.items key)) + cleared key new
    rest states)

-- One client recomputes at a time: one at first, and one more each time that the mark was taken.
abbrev pub ToldAlone : Type 0
ToldAlone =
    (old : State) (asked : List TimedOp) (answers : List Answer) (states : List State)
    → StepsInOrder old asked answers states → (key : List ℕ) →
    told key asked answers + one_if (is_sent old.items key) ≤ cleared key old asked states + one_if
    (is_sent (last_of old states).items key)
