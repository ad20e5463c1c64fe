-- The witness hears one clerk more.
use Rattle.std.proofs.Common.{rules}
use Rattle.mc_record.proofs.Joining.{heard_all, hears_one}
use Rattle.mc_record.proofs.closing.hear_clerks.Goals as goal

pub loop-clerk-preserved : goal.loop-clerk-preserved
loop-clerk-preserved c =
    hears_one _ _ _ c.loop-clerk.clerk-items c.loop-clerk.witness _ c.clerk-item.result _ _ (search rules)
    c.show.ensures.kept c.show.ensures.shown c.hear.ensures.sees c.loop-clerk.invariant

pub returns-clause-seen : goal.returns-clause-seen
returns-clause-seen c = heard_all _ _ _ _ _ (search rules) c.loop-clerk.invariant
