-- The totals of the shards so far are added.
use Rattle.std.proofs.Common.{take}
use Rattle.std.specs.List.{FoldsTo}
use Rattle.mc_telemetry.specs.Counts.{AddsShard, shared_values}
use Rattle.mc_telemetry.proofs.shard_counts.ShardTotals.and_each.Given as goal

abbrev pub invariant-loop-shard : goal.invariant-loop-shard
invariant-loop-shard g l =
    FoldsTo (AddsShard g.C.Count.has_told) l.fn.self (shared_values (take l.shard-index l.shards)) l.totals
