-- How the list of a shard, the most recently used item first, shows the state.
use Rattle.std.specs.Prelude.{ℕ, ◌≡◌, ◌+◌, ◌<◌, ◌≤◌, List, [], ◌∷◌, Option, Some}
use Rattle.std.specs.FinMap.{empty, get, remove}
use Rattle.mc_item.specs.declared.item.Item.{Item}
use Rattle.mc_item.specs.declared.op.Op.{Op}
use Rattle.mc_item.specs.declared.answer.Answer.{Answer}
use Rattle.mc_item.specs.declared.op_stats.OpStats.{OpStats}
use Rattle.mc_store.specs.declared.shard.Shard.{Shard}
use Rattle.mc_store.specs.State.{Used, Items, Turn, State, costs}
use Rattle.mc_store.specs.Step.{IsStep}

-- Each number in the map is below this one.
abbrev pub AllBelow : Items → ℕ → Type 0
AllBelow items number = (key : List ℕ) (used : Used) → get items key ≡ Some used → used.number < number

-- The list has the items of the map in falling order of their numbers.
abbrev pub Shows : List (List ℕ × Item) → Items → Type 0
Shows [] items = items ≡ empty
Shows (e ∷ es) items =
    (number : ℕ) × (get items e.0 ≡ Some (record { item = e.1; number = number })) × AllBelow (remove items e.0) number
    × Shows es (remove items e.0)

-- what a shard holds: the list, the turns, what the items may cost, its numbers, and its counts
pub record ShardContents : Type 0 where
  pub entries : List (List ℕ × Item)
  pub turns : List Turn
  pub budget : ℕ
  pub limit : ℕ
  pub time : ℕ
  pub flush : Option ℕ
  pub given : ℕ
  pub index : ℕ
  pub shards : ℕ
  pub op_stats : OpStats
  pub evicted : ℕ

abbrev pub held_of : Shard → ShardContents
held_of shard = record {
  entries = shard.items.entries;
  turns = shard.turns.items;
  budget = shard.items.budget;
  limit = shard.limit;
  time = shard.time;
  flush = shard.flush;
  given = shard.given;
  index = shard.index;
  shards = shard.shards;
  op_stats = shard.op_stats;
  evicted = shard.items.evicted;
}

-- What is held shows the state.
pub record Keeps (held : ShardContents) (state : State) : Type 0 where
  pub order : Shows held.entries state.items
  pub below : AllBelow state.items (state.uses + 1)
  pub fits : costs state.items ≤ state.budget
  pub turns : state.turns ≡ held.turns
  pub budget : state.budget ≡ held.budget
  pub limit : state.limit ≡ held.limit
  pub time : state.time ≡ held.time
  pub flush : state.flush ≡ held.flush
  pub given : state.given ≡ held.given
  pub index : state.index ≡ held.index
  pub shards : state.shards ≡ held.shards
  pub op_stats : state.op_stats ≡ held.op_stats
  pub evicted : state.evicted ≡ held.evicted
  pub place : state.index < state.shards

unfoldable pub IsShard : Shard → State → Type 0
IsShard shard state = Keeps (held_of shard) state

-- From whatever state the shard showed, the step is one that the protocol allows.
abbrev pub Steps : Shard → Op → ℕ → Answer → Shard → Type 0
Steps old op moment answer new =
    (state : State) → IsShard old state → (after : State) × IsStep state op moment answer after × IsShard new after
