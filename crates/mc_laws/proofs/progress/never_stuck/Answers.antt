-- The law holds, and wherever it does, some work can be done or all are at rest.
use Rattle.mc_model.specs.World.{empty_world}
use Rattle.mc_model.proofs.Worlds.{at_begin}
use Rattle.mc_model.proofs.Every.{all_kept}
use Rattle.mc_laws.proofs.Working.{rests_or_goes}
use Rattle.mc_laws.proofs.progress.never_stuck.Goals as goal

pub returns : goal.returns
returns c sizes events w within schedule =
    rests_or_goes sizes w within (all_kept sizes empty_world events w within.shards.0 schedule (at_begin sizes))
