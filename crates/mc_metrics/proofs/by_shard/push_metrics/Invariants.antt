-- The text has the metrics so far, and lacks the others.
use Rattle.std.proofs.Common.{◌≡◌, ◌++◌, drop, flat_map, string_bytes}
use Rattle.mc_metrics.specs.Shards.{text_of}
use Rattle.mc_metrics.proofs.by_shard.push_metrics.Given as goal

abbrev pub invariant-loop-metric : goal.invariant-loop-metric
invariant-loop-metric l =
    string_bytes l.text ++ flat_map (text_of l.shards) (drop l.metric-index l.metrics)
    ≡ string_bytes l.fn.text ++ flat_map (text_of l.shards) l.metrics
