-- Less and less is left.
use Rattle.mc_model.specs.World.{empty_world}
use Rattle.mc_model.proofs.Worlds.{at_begin}
use Rattle.mc_model.proofs.Every.{all_kept}
use Rattle.mc_laws.proofs.Fairness.{all_seated, rests, seated_at_begin}
use Rattle.mc_laws.proofs.progress.fair_runs_come_to_rest.Goals as goal

pub returns : goal.returns
returns c sizes events w within schedule run quiet fair =
    rests sizes w run within (all_kept sizes empty_world events w within.shards.0 schedule (at_begin sizes))
    (all_seated sizes empty_world events w schedule (seated_at_begin sizes)) quiet fair
