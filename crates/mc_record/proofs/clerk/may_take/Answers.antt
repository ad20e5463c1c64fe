use Rattle.mc_conn.specs.Conn.{taken_by}
use Rattle.mc_record.specs.Clerk.{taken_now}
use Rattle.mc_record.proofs.Clerking.{beyond}
use Rattle.mc_record.proofs.clerk.may_take.Goals as goal

pub returns-clause-may : goal.returns-clause-may
returns-clause-may c =
    (beyond (taken_now c.args.member.now) (taken_by c.args.conn.now) c.requires.begins c.requires.may).1
