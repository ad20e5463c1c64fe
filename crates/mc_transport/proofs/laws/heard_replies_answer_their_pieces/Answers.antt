use Rattle.mc_transport.proofs.Clerking.{answered_next, kept_heard}
use Rattle.mc_transport.proofs.laws.heard_replies_answer_their_pieces.Goals as goal

pub returns-clause-next : goal.returns-clause-next
returns-clause-next c = answered_next

pub returns-clause-hears : goal.returns-clause-hears
returns-clause-hears c = kept_heard
