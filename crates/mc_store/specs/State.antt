-- The state of a shard: a finite map from keys to items, each with the number of its last use. The map has
-- no order of its own.
use Rattle.std.specs.Prelude.{ℕ, ◌+◌, ◌-◌, ◌*◌, ◌%◌, ◌^◌, Bool, true, false, not, ◌||◌, ◌&&◌, ◌==◌, max, min, nat_le}
use Rattle.std.specs.Prelude.{List, [], ◌∷◌, ◌++◌, length, Option, Some, None, is_none, if◌then◌else◌}
use Rattle.std.specs.Option.{option_map_or}
use Rattle.std.specs.List.{sum_by}
use Rattle.std.specs.Ordering.{nat_cmp}
use Rattle.std.specs.Cmp.Lexicographic.{slice_cmp}
use Rattle.std.specs.FinMap.{FinMap, empty, get, insert, remove, retain_keys, entries, len}
use Rattle.mc_wire.specs.SameKey.{same_key}
use Rattle.mc_wire.specs.Limits.{latest_moment}
use Rattle.mc_item.specs.declared.item.Item.{Item}
use Rattle.mc_item.specs.declared.item.Expiry.{Expiry}
use Rattle.mc_item.specs.declared.item.Expiry.TheVariants.{Never, At}
use Rattle.mc_item.specs.declared.op_stats.OpStats.{OpStats}
use Rattle.mc_item.specs.Expiry.{is_dead}
use Rattle.mc_item.specs.OpStats.{no_counts, reclaimed_in}

-- an item, and the number of its last use
pub record Used : Type 0 where
  pub item : Item
  pub number : ℕ

abbrev pub Items : Type 0
Items = FinMap (slice_cmp nat_cmp) Used

-- an item's turn to be looked at: its key, and the unique that it had when it got the turn
abbrev pub Turn : Type 0
Turn = List ℕ × ℕ

pub record State : Type 0 where
  pub items : Items
  -- the turns that wait, the next one first
  pub turns : List Turn
  -- how many uses of items there were
  pub uses : ℕ
  -- the greatest moment so far
  pub time : ℕ
  -- when the pending flush runs
  pub flush : Option ℕ
  -- how many uniques were given
  pub given : ℕ
  pub index : ℕ
  pub shards : ℕ
  -- what the items may cost together, in bytes
  pub budget : ℕ
  -- how many bytes a value may have
  pub limit : ℕ
  -- what it was asked, and what came of it
  pub op_stats : OpStats
  -- how many items went to make room for others, modulo 2^64
  pub evicted : ℕ

abbrev pub empty_state : ℕ → ℕ → ℕ → ℕ → ℕ → State
empty_state index shards budget given limit =
    record {
      items = empty;
      turns = [];
      uses = 0;
      time = 0;
      flush = None;
      given = given;
      index = index;
      shards = shards;
      budget = budget;
      limit = limit;
      op_stats = no_counts;
      evicted = 0;
    }

-- Settling, which comes before every operation (protocol.txt, "flush_all" and "Expiration times")

-- whether a pending flush runs at the time
abbrev pub is_due : Option ℕ → ℕ → Bool
is_due flush time = option_map_or (λ second. nat_le second time) flush false

-- No item is left, no turn waits, and no flush is pending.
abbrev pub flushed : State → State
flushed state = record state { items = empty; turns = []; flush = None }

abbrev pub at_time : State → ℕ → State
at_time state time =
    if is_due state.flush time then flushed (record state { time = time }) else record state { time = time }

-- The time never goes back, and a flush that is due runs.
abbrev pub arrived : State → ℕ → State
arrived state moment = at_time state (max state.time (min moment latest_moment))

abbrev pub is_dead_at : ℕ → Option Used → Bool
is_dead_at time found = option_map_or (λ used. is_dead used.item.expiry time) found false

-- a state with these items
abbrev pub with_items : State → Items → State
with_items state items = record state { items = items }

-- the state without the item under the key, where that is dead
abbrev pub without_dead : State → Option (List ℕ) → State
without_dead state None = state
without_dead state (Some key) =
    if is_dead_at state.time (get state.items key) then with_items state (remove state.items key) else state

-- the state in which an operation on the key begins
abbrev pub settle : State → Option (List ℕ) → ℕ → State
settle state key moment = without_dead (arrived state moment) key

-- Use

abbrev pub number_at : Items → List ℕ → ℕ
number_at items key = option_map_or (λ used. used.number) (get items key) 0

-- The item is under the key and is the most recently used one, accessed now.
abbrev pub first : State → List ℕ → Item → State
first state key item = record state {
  items = insert state.items key (record { item = record item { last_access = state.time }; number = state.uses + 1 });
  uses = state.uses + 1;
}

-- Cost, and eviction

-- what an item costs beside its key and its value, in bytes
abbrev pub item_overhead : ℕ
item_overhead = 64

-- what an item costs, in bytes: its key, its value, and 64
abbrev pub cost : List ℕ → List ℕ → ℕ
cost key value = length key + length value + item_overhead

abbrev pub cost_of : List ℕ × Used → ℕ
cost_of entry = cost entry.0 entry.1.item.value

-- what the items cost together
unfoldable pub costs : Items → ℕ
costs items = sum_by cost_of (entries items)

-- the items that were used no earlier than that under the key
unfoldable pub used_since : Items → List ℕ → Items
used_since items key = retain_keys items (λ other. nat_le (number_at items key) (number_at items other))

-- Eviction for the item under the key, which itself stays: another item stays where all that were used no earlier than
-- it, with it, cost no more than the budget. So the least recently used are evicted, and no more of them than must.
--
-- Say that the budget is 1,024, and that a, b, c and d are stored in this order, each with a value of 235 bytes: each
-- costs 1 + 235 + 64 = 300. When d is stored, the items used no earlier than c cost 600, those no earlier than b 900,
-- and those no earlier than a 1,200: a is evicted, and b and c stay. Were a fetched before d is stored, b would be the
-- least recently used, and would be evicted in its place. Were the value of d 535 bytes long, c would stay at 600 + 300
-- = 900, and b would be evicted at 1,200, and a at 1,500: whatever was used earlier than an evicted item is evicted
-- too, however small it is.
unfoldable pub fitting : Items → ℕ → List ℕ → Items
fitting items budget key =
    retain_keys items (λ other. same_key key other || nat_le (costs (used_since items other)) budget)

-- The state where items went for that under the key, each of which is counted.
abbrev pub evicting : State → List ℕ → State
evicting state key = record state {
  items = fitting state.items state.budget key;
  evicted = (state.evicted + (len state.items - len (fitting state.items state.budget key))) % 2 ^ 64;
}

-- Dead items, which are removed
--
-- An item with an expiry waits for its turn. Whenever an item enters, the next two turns are looked at. Where the
-- turn's item is dead, both are removed, and that is counted as an item reclaimed, not evicted. Where it lives, its
-- turn comes again after all others. Where it was stored again or is gone, the turn is dropped.
--
-- Say that a, b and c wait in this order, that a was deleted, and that b is dead. When d is stored, the turn of a is
-- dropped, and b is removed: c and d wait. When e is stored, c and d are looked at, and live: c, d and e wait. Had c
-- died by then, it would be removed, and d and e would wait.

-- The item that is found is the one that got the turn.
abbrev pub is_of_turn : Turn → Option Used → Bool
is_of_turn turn found = option_map_or (λ used. used.item.unique == turn.1) found false

-- The turn's item is removed: it is dead, and it isn't the one that enters, which has this unique.
abbrev pub is_reclaimed : ℕ → ℕ → Items → Turn → Bool
is_reclaimed entering time items turn =
    is_of_turn turn (get items turn.0) && (is_dead_at time (get items turn.0) && not (turn.1 == entering))

-- The turn comes again: its item is there, and stays.
abbrev pub comes_again : ℕ → ℕ → Items → Turn → Bool
comes_again entering time items turn = is_of_turn turn (get items turn.0) && not (is_reclaimed entering time items turn)

-- the items once the next turn was looked at
unfoldable pub items_after : ℕ → ℕ → Items → List Turn → Items
items_after entering time items [] = items
items_after entering time items (turn ∷ rest) =
    if is_reclaimed entering time items turn then remove items turn.0 else items

-- the turns that wait then
unfoldable pub turns_after : ℕ → ℕ → Items → List Turn → List Turn
turns_after entering time items [] = []
turns_after entering time items (turn ∷ rest) = if comes_again entering time items turn then rest ++ turn ∷ [] else rest

-- whether an item that was found was fetched since it was stored
abbrev pub was_fetched : Option Used → Bool
was_fetched found = option_map_or (λ used. used.item.fetched) found false

-- the counts then: one item more was reclaimed exactly where one is removed
unfoldable pub op_stats_after : ℕ → ℕ → Items → List Turn → OpStats → OpStats
op_stats_after entering time items [] op_stats = op_stats
op_stats_after entering time items (turn ∷ rest) op_stats =
    if is_reclaimed entering time items turn then reclaimed_in op_stats (was_fetched (get items turn.0)) else op_stats

-- the state once the next turn was looked at, for the item of this unique, which enters
abbrev pub looked : ℕ → State → State
looked entering state = record state {
  items = items_after entering state.time state.items state.turns;
  turns = turns_after entering state.time state.items state.turns;
  op_stats = op_stats_after entering state.time state.items state.turns state.op_stats;
}

-- whether an item with this expiry ever dies
abbrev pub expires : Expiry → Bool
expires Never = false
expires (At second) = true

-- An item that enters waits for its turn, where it has an expiry, and where the shard gave its unique, not a client. So
-- no two turns are alike, and at most about twice as many wait as there were items.
abbrev pub waits : Option ℕ → Item → Bool
waits token item = is_none token && expires item.expiry

abbrev pub with_turn : State → Option ℕ → List ℕ → Item → State
with_turn state token key item =
    record state { turns = if waits token item then state.turns ++ (key, item.unique) ∷ [] else state.turns }

-- The item enters, or changes its size, and is the most recently used one; others go where the costs would pass the
-- budget. Then two turns are looked at, and the item gets its own, where no client gave its unique as a token. What the
-- dead leave is room for the next item.
abbrev pub entered : State → Option ℕ → List ℕ → Item → State
entered state token key item =
    with_turn (looked item.unique (looked item.unique (evicting (first state key item) key))) token key item

-- Uniques

-- the unique that the shard gives next
abbrev pub next_unique : State → ℕ
next_unique state = state.index + 1 + state.shards * state.given

abbrev pub with_given : State → State
with_given state = record state { given = state.given + 1 }
