-- The witness has seen what the clerks so far have.
use Rattle.mc_record.proofs.Joining.{HearsFirst}
use Rattle.mc_record.proofs.closing.hear_clerks.Given as goal

abbrev pub invariant-loop-clerk : goal.invariant-loop-clerk
invariant-loop-clerk l =
    HearsFirst l.fn.witness.name l.clerk-index l.fn.clerks.items l.clerk-items l.witness
