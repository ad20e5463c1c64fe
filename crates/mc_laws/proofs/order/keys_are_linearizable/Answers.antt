-- The headline, and the order in time of what was handed out.
use Rattle.mc_laws.proofs.Linear.{is_linearizable}
use Rattle.mc_laws.proofs.order.keys_are_linearizable.Goals as goal

pub returns : goal.returns
returns c sizes events w led key within = is_linearizable sizes events w led key within
