-- By cases on the command and the answer.
use Rattle.mc_reply.proofs.Ordered.{orders_flags}
use Rattle.mc_reply.proofs.laws.flags_change_their_order_alone.Goals as goal

pub returns : goal.returns
returns c = orders_flags
