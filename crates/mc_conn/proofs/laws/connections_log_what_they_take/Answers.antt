use Rattle.mc_conn.proofs.Logged.{due_carried, pending_replies_carried, log_is, may_carried}
use Rattle.mc_conn.proofs.laws.connections_log_what_they_take.Goals as goal

pub returns-clause-log : goal.returns-clause-log
returns-clause-log c = log_is

pub returns-clause-due : goal.returns-clause-due
returns-clause-due c = due_carried

pub returns-clause-pending_replies : goal.returns-clause-pending_replies
returns-clause-pending_replies c = pending_replies_carried

pub returns-clause-may : goal.returns-clause-may
returns-clause-may c = may_carried
