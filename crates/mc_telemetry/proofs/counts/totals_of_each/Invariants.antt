-- What the shards so far show.
use Rattle.std.proofs.Common.{take}
use Rattle.mc_telemetry.specs.Counts.{EachIsShown, shared_values}
use Rattle.mc_telemetry.proofs.counts.totals_of_each.Given as goal

abbrev pub invariant-loop-shard : goal.invariant-loop-shard
invariant-loop-shard g l = EachIsShown g.C.Count.has_told (shared_values (take l.shard-index l.shards)) l.totals.items
