-- The clerks so far have been shown all that the witness has seen, and the witness is as it was.
use Rattle.std.proofs.Common.{◌≡◌}
use Rattle.mc_record.proofs.Joining.{ShowsFirst}
use Rattle.mc_record.proofs.closing.show_clerks.Given as goal

abbrev pub invariant-loop-clerk : goal.invariant-loop-clerk
invariant-loop-clerk l =
    (l.witness ≡ l.fn.witness) × ShowsFirst l.fn.witness.events l.clerk-index l.fn.clerks.items l.clerk-items
