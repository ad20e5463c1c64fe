-- The text has the reasons so far, and lacks the others.
use Rattle.std.proofs.Common.{◌≡◌, ◌++◌, drop, flat_map, string_bytes}
use Rattle.mc_metrics.specs.Metrics.{ended_text}
use Rattle.mc_metrics.proofs.text.push_each_end.Given as goal

abbrev pub invariant-loop-reason : goal.invariant-loop-reason
invariant-loop-reason l =
    string_bytes l.text ++ flat_map (ended_text l.ends) (drop l.reason-index l.reasons)
    ≡ string_bytes l.fn.text ++ flat_map (ended_text l.ends) l.reasons
