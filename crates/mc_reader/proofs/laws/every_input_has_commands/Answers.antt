use Rattle.mc_reader.proofs.Fronts.{every_input}
use Rattle.mc_reader.proofs.laws.every_input_has_commands.Goals as goal

pub returns : goal.returns
returns c = every_input
