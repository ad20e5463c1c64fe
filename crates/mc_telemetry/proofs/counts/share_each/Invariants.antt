-- What was shared so far.
use Rattle.std.proofs.Common.{◌≡◌, take}
use Rattle.mc_telemetry.specs.Counts.{shared_values}
use Rattle.mc_telemetry.proofs.counts.share_each.Given as goal

abbrev pub invariant-loop-one : goal.invariant-loop-one
invariant-loop-one g l = shared_values l.shared.items ≡ shared_values (take l.one-index l.all)
