use Rattle.mc_history.proofs.Turns.{channel_due}
use Rattle.mc_history.proofs.laws.a_channels_next_piece_is_its_connections_next.Goals as goal

pub returns : goal.returns
returns c = channel_due
