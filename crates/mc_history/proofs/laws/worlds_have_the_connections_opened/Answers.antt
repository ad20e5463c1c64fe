use Rattle.std.proofs.Common.{length}
use Rattle.mc_history.specs.Worlds.{seats_in}
use Rattle.mc_history.proofs.Worlds.{links_are, links_there}
use Rattle.mc_history.proofs.laws.worlds_have_the_connections_opened.Goals as goal

pub returns-clause-there : goal.returns-clause-there
returns-clause-there c k history = links_there (length (seats_in history)) k history

pub returns-clause-alone : goal.returns-clause-alone
returns-clause-alone c k link history = links_are (length (seats_in history)) k link history
