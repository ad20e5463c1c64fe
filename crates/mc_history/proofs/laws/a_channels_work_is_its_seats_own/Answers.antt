use Rattle.mc_history.proofs.Seats.{work_opened, work_stays, work_took}
use Rattle.mc_history.proofs.laws.a_channels_work_is_its_seats_own.Goals as goal

pub returns-clause-stays : goal.returns-clause-stays
returns-clause-stays c = work_stays

pub returns-clause-opened : goal.returns-clause-opened
returns-clause-opened c = work_opened

pub returns-clause-took : goal.returns-clause-took
returns-clause-took c = work_took
