use Rattle.mc_reader.proofs.Fronts.{one_list}
use Rattle.mc_reader.proofs.laws.one_list_of_commands.Goals as goal

pub returns : goal.returns
returns c = one_list
