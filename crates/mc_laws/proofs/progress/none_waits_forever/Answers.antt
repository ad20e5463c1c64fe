-- Each connection makes progress, whatever the others do.
use Rattle.mc_model.specs.World.{empty_world}
use Rattle.mc_model.proofs.Worlds.{at_begin}
use Rattle.mc_model.proofs.Every.{all_kept}
use Rattle.mc_laws.proofs.Waiting.{none_waits}
use Rattle.mc_laws.proofs.Fairness.{all_seated, seated_at_begin}
use Rattle.mc_laws.proofs.progress.none_waits_forever.Goals as goal

pub returns : goal.returns
returns c sizes events w within schedule run fair seats =
    none_waits sizes w run within (all_kept sizes empty_world events w within.shards.0 schedule (at_begin sizes))
    (all_seated sizes empty_world events w schedule (seated_at_begin sizes)) fair seats
