use Rattle.mc_history.specs.WritesLaws.{behind_may, front_may}
use Rattle.mc_history.proofs.Writing.{grown_may, read_may}
use Rattle.mc_history.proofs.laws.what_may_be_written_stays.Goals as goal

pub returns-clause-front : goal.returns-clause-front
returns-clause-front c = front_may

pub returns-clause-rest : goal.returns-clause-rest
returns-clause-rest c = behind_may

pub returns-clause-read : goal.returns-clause-read
returns-clause-read c = read_may

pub returns-clause-grows : goal.returns-clause-grows
returns-clause-grows c = grown_may
