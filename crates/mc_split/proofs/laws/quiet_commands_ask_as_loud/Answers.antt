-- By cases on the command.
use Rattle.mc_split.proofs.Alike.{asks_as_loud}
use Rattle.mc_split.proofs.laws.quiet_commands_ask_as_loud.Goals as goal

pub returns : goal.returns
returns c = asks_as_loud
