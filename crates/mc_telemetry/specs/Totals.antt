-- The contents and statistics of a shard, and the sums of several; each count saturates at 64 bits.
use Rattle.std.specs.Prelude.{ℕ, ◌≡◌, ◌+◌, ◌-◌, ◌%◌, ◌^◌, [], ◌∷◌, fold, min}
use Rattle.std.specs.FinMap.{len}
use Rattle.mc_item.specs.declared.op_stats.StatClass.{StatClass}
use Rattle.mc_item.specs.declared.op_stats.StatClass.TheVariants.{Get, Set, Cas, Touch, Delete, Incr, Decr, Flush}
use Rattle.mc_item.specs.declared.op_stats.StatClass.TheVariants.{Reclaimed, TooLarge}
use Rattle.mc_item.specs.declared.op_stats.Status.TheVariants.{Hit, Miss, BadValue, NoMemory, Refused}
use Rattle.mc_item.specs.declared.op_stats.OpStats.{OpStats}
use Rattle.mc_item.specs.OpStats.{counted}
use Rattle.mc_store.specs.State.{State, costs}
use Rattle.mc_telemetry.specs.declared.shard_counts.CommandTotals.{CommandTotals}
use Rattle.mc_telemetry.specs.declared.shard_counts.ShardTotals.{ShardTotals}

-- the sum of two counts
abbrev pub sum_of : ℕ → ℕ → ℕ
sum_of one other = min (one + other) (2 ^ 64 - 1)

-- the outcomes of one kind of command, on both shards
abbrev pub commands_of_both : CommandTotals → CommandTotals → CommandTotals
commands_of_both one other = record {
  hits = sum_of one.hits other.hits;
  misses = sum_of one.misses other.misses;
  bad_values = sum_of one.bad_values other.bad_values;
  no_memory = sum_of one.no_memory other.no_memory;
  refused = sum_of one.refused other.refused;
}

-- the contents and statistics of both shards
abbrev pub shards_of_both : ShardTotals → ShardTotals → ShardTotals
shards_of_both one other = record {
  items = sum_of one.items other.items;
  bytes = sum_of one.bytes other.bytes;
  evicted = sum_of one.evicted other.evicted;
  reclaimed = sum_of one.reclaimed other.reclaimed;
  too_large = sum_of one.too_large other.too_large;
  out_of_memory = sum_of one.out_of_memory other.out_of_memory;
  get = commands_of_both one.get other.get;
  set = commands_of_both one.set other.set;
  cas = commands_of_both one.cas other.cas;
  touch = commands_of_both one.touch other.touch;
  delete = commands_of_both one.delete other.delete;
  incr = commands_of_both one.incr other.incr;
  decr = commands_of_both one.decr other.decr;
  flush = commands_of_both one.flush other.flush;
}

-- no commands
abbrev pub no_commands : CommandTotals
no_commands = record { hits = 0; misses = 0; bad_values = 0; no_memory = 0; refused = 0 }

-- no contents and no commands
abbrev pub no_shards : ShardTotals
no_shards = record {
  items = 0;
  bytes = 0;
  evicted = 0;
  reclaimed = 0;
  too_large = 0;
  out_of_memory = 0;
  get = no_commands;
  set = no_commands;
  cas = no_commands;
  touch = no_commands;
  delete = no_commands;
  incr = no_commands;
  decr = no_commands;
  flush = no_commands;
}

-- the outcomes of all kinds of commands together
abbrev pub commands_of_all : ShardTotals → CommandTotals
commands_of_all totals =
    fold commands_of_both totals.get
    (totals.set ∷ totals.cas ∷ totals.touch ∷ totals.delete ∷ totals.incr ∷ totals.decr ∷ totals.flush ∷ [])

-- the totals, with the number of all commands for which memory was refused
abbrev pub with_out_of_memory : ShardTotals → ShardTotals
with_out_of_memory totals = record totals { out_of_memory = (commands_of_all totals).no_memory }

-- the totals include that number
abbrev pub IsSummed : ShardTotals → Type 0
IsSummed totals = totals.out_of_memory ≡ (commands_of_all totals).no_memory

-- the statistics of one kind of command in a shard
abbrev pub commands_counted : OpStats → StatClass → CommandTotals
commands_counted op_stats asked = record {
  hits = counted op_stats asked Hit;
  misses = counted op_stats asked Miss;
  bad_values = counted op_stats asked BadValue;
  no_memory = counted op_stats asked NoMemory;
  refused = counted op_stats asked Refused;
}

-- how often this was counted, whether the item was found or fetched or not
abbrev pub found_or_not : OpStats → StatClass → ℕ
found_or_not op_stats asked = (counted op_stats asked Hit + counted op_stats asked Miss) % 2 ^ 64

-- the totals of a shard with these counts, except for the commands for which memory was refused
abbrev pub totals_counted : (items bytes evicted : ℕ) → OpStats → ShardTotals
totals_counted items bytes evicted op_stats = record {
  items = items;
  bytes = bytes;
  evicted = evicted;
  reclaimed = found_or_not op_stats Reclaimed;
  too_large = found_or_not op_stats TooLarge;
  out_of_memory = 0;
  get = commands_counted op_stats Get;
  set = commands_counted op_stats Set;
  cas = commands_counted op_stats Cas;
  touch = commands_counted op_stats Touch;
  delete = commands_counted op_stats Delete;
  incr = commands_counted op_stats Incr;
  decr = commands_counted op_stats Decr;
  flush = commands_counted op_stats Flush;
}

-- the published totals of a shard in this state
abbrev pub shown_of : State → ShardTotals
shown_of state =
    with_out_of_memory (totals_counted (len state.items) (costs state.items) state.evicted state.op_stats)
