use Rattle.std.proofs.Common.{sym, ap}
use Rattle.std.specs.Option.{option_map}
use Rattle.mc_ring.specs.Reply.{shown}
use Rattle.mc_worker.specs.declared.worker.Pending.{Pending}
use Rattle.mc_worker.proofs.WorkerStates.{held_within}
use Rattle.mc_worker.proofs.worker.Worker.holder.Goals as goal

pub returns-clause-within : goal.returns-clause-within
returns-clause-within g c =
    let held = c.in_ok-pending.pending.now in
    rw (← c.self.view_is) (held_within _ held.seat (shown held.reply) c.self.invariant.0
    (ap (option_map (λ (pending : Pending). (pending.seat, shown pending.reply))) (sym c.in_ok-pending.ensures.value)))
