use Rattle.mc_history.proofs.Follows.{due_stays}
use Rattle.mc_history.proofs.Channels.{work_grows}
use Rattle.mc_history.proofs.Roles.{opened_later}
use Rattle.mc_history.proofs.Seats.{ran_grows}
use Rattle.mc_history.proofs.laws.what_was_shown_stays.Goals as goal

pub returns-clause-opened : goal.returns-clause-opened
returns-clause-opened c = opened_later

pub returns-clause-due : goal.returns-clause-due
returns-clause-due c = due_stays

pub returns-clause-work : goal.returns-clause-work
returns-clause-work c = work_grows

pub returns-clause-ran : goal.returns-clause-ran
returns-clause-ran c = ran_grows
