use Rattle.mc_worker.specs.WorkerState.{Goes}
use Rattle.mc_session.proofs.working.Working.turn.Given as goal

abbrev pub invariant-loop-seat : goal.invariant-loop-seat
invariant-loop-seat g l = Goes l.fn.self.worker l.self.worker
