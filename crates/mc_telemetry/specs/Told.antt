-- Which counter belongs to which number. No clause knows the value of a counter, since threads share it. So
-- these relations state for each number which counter was set to it, or returned it.
use Rattle.std.specs.Prelude.{ℕ}
use Rattle.mc_telemetry.specs.declared.shard_counts.CommandCounters.{CommandCounters}
use Rattle.mc_telemetry.specs.declared.shard_counts.CommandTotals.{CommandTotals}
use Rattle.mc_telemetry.specs.declared.shard_counts.ShardCounters.{ShardCounters}
use Rattle.mc_telemetry.specs.declared.shard_counts.ShardCounts.{ShardCounts}
use Rattle.mc_telemetry.specs.declared.shard_counts.ShardTotals.{ShardTotals}

module _ {C : Type 0} (goes : C → ℕ → Type 0) where
  -- each counter of a kind of command, with the total of its name
  pub record EachOfCommand (counters : CommandCounters C) (totals : CommandTotals) : Type 0 where
    pub hits : goes counters.hits totals.hits
    pub misses : goes counters.misses totals.misses
    pub bad_values : goes counters.bad_values totals.bad_values
    pub no_memory : goes counters.no_memory totals.no_memory
    pub refused : goes counters.refused totals.refused

  -- each counter of a shard, with the total of its name
  pub record EachOfShard (counters : ShardCounters C) (totals : ShardTotals) : Type 0 where
    pub items : goes counters.items totals.items
    pub bytes : goes counters.bytes totals.bytes
    pub evicted : goes counters.evicted totals.evicted
    pub reclaimed : goes counters.reclaimed totals.reclaimed
    pub too_large : goes counters.too_large totals.too_large
    pub get : EachOfCommand counters.get totals.get
    pub set : EachOfCommand counters.set totals.set
    pub cas : EachOfCommand counters.cas totals.cas
    pub touch : EachOfCommand counters.touch totals.touch
    pub delete : EachOfCommand counters.delete totals.delete
    pub incr : EachOfCommand counters.incr totals.incr
    pub decr : EachOfCommand counters.decr totals.decr
    pub flush : EachOfCommand counters.flush totals.flush

  -- each counter of a shard, with its published total
  abbrev pub EachShown : ShardCounts C → ShardTotals → Type 0
  EachShown shown totals = EachOfShard shown.counters totals
