use Rattle.mc_record.proofs.Clerking.{may_open}
use Rattle.mc_record.proofs.clerk.may_open.Goals as goal

pub returns-clause-own : goal.returns-clause-own
returns-clause-own c = (may_open c.args.member.now c.requires).0
