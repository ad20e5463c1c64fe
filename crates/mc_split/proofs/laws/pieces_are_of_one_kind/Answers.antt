use Rattle.mc_split.proofs.Shards.{pieces_alike}
use Rattle.mc_split.proofs.laws.pieces_are_of_one_kind.Goals as goal

pub returns : goal.returns
returns c = λ shards ticket command. pieces_alike shards command
