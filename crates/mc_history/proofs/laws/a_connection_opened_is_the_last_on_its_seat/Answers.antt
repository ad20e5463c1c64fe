use Rattle.mc_history.proofs.Seeing.{added_opening}
use Rattle.mc_history.proofs.laws.a_connection_opened_is_the_last_on_its_seat.Goals as goal

pub returns : goal.returns
returns c = added_opening
