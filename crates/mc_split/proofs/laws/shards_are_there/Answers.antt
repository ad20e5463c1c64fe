-- By cases on the command.
use Rattle.mc_split.proofs.Shards.{pieces_within}
use Rattle.mc_split.proofs.laws.shards_are_there.Goals as goal

pub returns : goal.returns
returns c = pieces_within
