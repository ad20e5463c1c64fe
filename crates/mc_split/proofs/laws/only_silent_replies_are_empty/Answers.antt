-- By cases on the command and the answer.
use Rattle.mc_split.proofs.Empty.{empty_where_silent}
use Rattle.mc_split.proofs.laws.only_silent_replies_are_empty.Goals as goal

pub returns : goal.returns
returns c = empty_where_silent
