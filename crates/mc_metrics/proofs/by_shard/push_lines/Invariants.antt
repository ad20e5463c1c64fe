-- The text has the lines of the shards so far, and lacks those of the others.
use Rattle.std.proofs.Common.{◌≡◌, ◌++◌, drop, string_bytes}
use Rattle.mc_metrics.specs.Shards.{shard_lines}
use Rattle.mc_metrics.proofs.by_shard.push_lines.Given as goal

abbrev pub invariant-loop-number : goal.invariant-loop-number
invariant-loop-number l =
    string_bytes l.text ++ shard_lines l.metric l.number (drop l.number l.shards)
    ≡ string_bytes l.fn.text ++ shard_lines l.metric 0 l.shards
