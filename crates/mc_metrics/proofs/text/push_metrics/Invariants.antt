-- The text has the metrics so far, and lacks the others.
use Rattle.std.proofs.Common.{◌≡◌, ◌++◌, drop, flat_map, string_bytes}
use Rattle.mc_metrics.specs.Metrics.{told_text}
use Rattle.mc_metrics.proofs.text.push_metrics.Given as goal

abbrev pub invariant-loop-metric : goal.invariant-loop-metric
invariant-loop-metric l =
    string_bytes l.text ++ flat_map (told_text l.reading) (drop l.metric-index l.metrics)
    ≡ string_bytes l.fn.text ++ flat_map (told_text l.reading) l.metrics
