-- By cases on the command.
use Rattle.mc_split.proofs.Alike.{asks_alike}
use Rattle.mc_split.proofs.laws.flags_change_no_piece.Goals as goal

pub returns : goal.returns
returns c = asks_alike
