-- What the shards show that were thought of so far.
use Rattle.std.proofs.Common.{◌≡◌, length}
use Rattle.mc_telemetry.proofs.counts.new_shards.Given as goal

abbrev pub invariant-loop : goal.invariant-loop
invariant-loop l = length l.shards.items ≡ l.counter
