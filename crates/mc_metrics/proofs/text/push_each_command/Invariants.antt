-- The text has the kinds of commands so far, and lacks the others.
use Rattle.std.proofs.Common.{◌≡◌, ◌++◌, drop, flat_map, string_bytes}
use Rattle.mc_metrics.specs.Metrics.{asked_text}
use Rattle.mc_metrics.proofs.text.push_each_command.Given as goal

abbrev pub invariant-loop-command : goal.invariant-loop-command
invariant-loop-command l =
    string_bytes l.text ++ flat_map (asked_text l.shards) (drop l.command-index l.commands)
    ≡ string_bytes l.fn.text ++ flat_map (asked_text l.shards) l.commands
