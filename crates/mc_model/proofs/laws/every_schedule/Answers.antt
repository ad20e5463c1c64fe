-- Every event keeps the law, and the headline follows from it.
use Rattle.mc_model.specs.World.{empty_world}
use Rattle.mc_model.proofs.Worlds.{at_begin}
use Rattle.mc_model.proofs.Every.{all_kept}
use Rattle.mc_model.proofs.Follows.{headline}
use Rattle.mc_model.proofs.laws.every_schedule.Goals as goal

pub returns : goal.returns
returns c sizes events w within leads =
    headline sizes w (all_kept sizes empty_world events w within.shards.0 leads (at_begin sizes))
