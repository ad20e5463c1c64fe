use Rattle.mc_history.proofs.Seeing.{heard_commands, heard_entries}
use Rattle.mc_history.proofs.laws.hearing_adds_nothing_of_ones_own.Goals as goal

pub returns-clause-connection : goal.returns-clause-connection
returns-clause-connection c = heard_commands

pub returns-clause-shard : goal.returns-clause-shard
returns-clause-shard c = heard_entries
