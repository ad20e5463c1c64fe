use Rattle.std.proofs.Common.{None, refl, rules}
use Rattle.mc_store.specs.Shard.{held_of}
use Rattle.mc_worker.specs.WorkerState.{WorkerState, IsWellMarked}
use Rattle.mc_worker.proofs.WorkerStates.{all_live, new_has_run}
use Rattle.mc_worker.proofs.Steps.{shard_keeps}
use Rattle.mc_worker.proofs.worker.Worker.recorded.Goals as goal

pub returns-clause-live : goal.returns-clause-live
returns-clause-live g c = rw (c.in_ok-live.ensures.items_if_clones_equal (λ y same. same)) (all_live c.seats.result)

pub returns-clause-begins : goal.returns-clause-begins
returns-clause-begins g c =
    λ begin is. new_has_run _ begin refl c.requires.unused (returns-clause-live g c) (shard_keeps _ begin is)

pub invariant_of-result : goal.invariant_of-result
invariant_of-result g c =
    let worker_state : WorkerState =
    record { shard = held_of c.args.shard; ends = c.args.ends; hand = None; live = c.in_ok-live.live.items } in
    let sound : IsWellMarked worker_state =
    record { marked = search rules; holder = λ seat reply held. absurd (cc held) } in (
      sound,
      λ keeps. record {
        routes = c.requires.routes keeps;
        ran =
            rw (c.requires.log keeps)
            (new_has_run worker_state _ refl c.requires.unused (returns-clause-live g c)
            (shard_keeps _ _ (c.requires.begin keeps)));
      },
    )
