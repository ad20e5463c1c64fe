-- The reporters so far, and where they are heard.
use Rattle.std.proofs.Common.{◌≡◌, length}
use Rattle.mc_telemetry.specs.Reports.{AreHeard}
use Rattle.mc_telemetry.proofs.reporter.reporters.Given as goal

abbrev pub invariant-loop : goal.invariant-loop
invariant-loop l = (length l.all.items ≡ l.counter) × AreHeard l.all.items l.queues.items
