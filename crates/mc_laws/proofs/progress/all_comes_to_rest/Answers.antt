-- Each event of work lowers what is left, and that is no more than what the commands spelled take.
use Rattle.mc_model.specs.World.{empty_world}
use Rattle.mc_model.proofs.Worlds.{at_begin}
use Rattle.mc_model.proofs.Every.{all_kept}
use Rattle.mc_laws.proofs.Measure.{is_bounded, settles}
use Rattle.mc_laws.proofs.progress.all_comes_to_rest.Goals as goal

pub returns-clause-bound : goal.returns-clause-bound
returns-clause-bound c sizes events w within schedule =
    is_bounded sizes w within.shards.0 (all_kept sizes empty_world events w within.shards.0 schedule (at_begin sizes))

pub returns-clause-rest : goal.returns-clause-rest
returns-clause-rest c sizes events w within schedule =
    settles sizes w within (all_kept sizes empty_world events w within.shards.0 schedule (at_begin sizes))
