-- The text has the groups so far, and lacks the others.
use Rattle.std.proofs.Common.{◌≡◌, ◌++◌, drop, flat_map, string_bytes}
use Rattle.mc_metrics.specs.Amounts.{group_text}
use Rattle.mc_metrics.proofs.amounts.push_groups.Given as goal

abbrev pub invariant-loop-power : goal.invariant-loop-power
invariant-loop-power l =
    string_bytes l.text ++ flat_map (group_text l.number) (drop l.power-index l.powers)
    ≡ string_bytes l.fn.text ++ flat_map (group_text l.number) l.powers
