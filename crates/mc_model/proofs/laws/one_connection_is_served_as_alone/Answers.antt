-- On each shard the pieces ran in the order in which they run alone.
use Rattle.mc_model.specs.World.{empty_world}
use Rattle.mc_model.proofs.Worlds.{at_begin}
use Rattle.mc_model.proofs.Every.{all_kept}
use Rattle.mc_model.proofs.Alone.{gets_alone}
use Rattle.mc_model.proofs.laws.one_connection_is_served_as_alone.Goals as goal

pub returns : goal.returns
returns c sizes events w k link within schedule here unbroken rest by =
    let law = all_kept sizes empty_world events w within.shards.0 schedule (at_begin sizes) in
    gets_alone sizes w k link within.shards.0 (law.links k link here) law.lawful unbroken rest by
