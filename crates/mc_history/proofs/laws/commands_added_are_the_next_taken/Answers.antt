use Rattle.mc_history.proofs.Seeing.{added_commands}
use Rattle.mc_history.proofs.laws.commands_added_are_the_next_taken.Goals as goal

pub returns : goal.returns
returns c = added_commands
