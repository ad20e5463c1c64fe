-- By cases on the command.
use Rattle.mc_reply.proofs.Loud.{empty_or_loud}
use Rattle.mc_reply.proofs.laws.quiet_replies_are_empty_or_loud.Goals as goal

pub returns : goal.returns
returns c = empty_or_loud
