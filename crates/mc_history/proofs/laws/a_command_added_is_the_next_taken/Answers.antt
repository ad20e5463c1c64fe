use Rattle.mc_history.proofs.Seeing.{added_command}
use Rattle.mc_history.proofs.laws.a_command_added_is_the_next_taken.Goals as goal

pub returns : goal.returns
returns c = added_command
