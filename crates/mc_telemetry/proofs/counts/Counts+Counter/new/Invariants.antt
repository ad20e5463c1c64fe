-- What the threads count that were thought of so far, beside what the shards show.
use Rattle.std.proofs.Common.{◌≡◌, length}
use Rattle.mc_telemetry.proofs.counts.Counts+Counter.new.Given as goal

abbrev pub invariant-loop : goal.invariant-loop
invariant-loop l = (length l.counts.threads.items ≡ l.counter) × (length l.counts.shards.items ≡ l.fn.shards)
