-- The replies are those of the history whose answers the shards gave.
use Rattle.mc_model.proofs.Served.{served_alone}
use Rattle.mc_model.proofs.handed.a_connection_is_served_as_alone.Goals as goal

pub returns : goal.returns
returns c = served_alone
