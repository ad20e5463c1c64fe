-- By cases on the command.
use Rattle.mc_split.proofs.Shards.{pieces_name}
use Rattle.mc_split.proofs.laws.pieces_name_their_shard.Goals as goal

pub returns : goal.returns
returns c = pieces_name
