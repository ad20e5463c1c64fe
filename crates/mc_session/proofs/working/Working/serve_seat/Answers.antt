-- What a worker's turns for a seat leave there, by the bit that it is given.
use Rattle.std.proofs.Common.{refl}
use Rattle.mc_worker.specs.WorkerStateLaws.{goes_refl}
use Rattle.mc_session.proofs.working.Working.serve_seat.Goals as goal

pub returns-then-seat-len-clause-goes : goal.returns-then-seat-len-clause-goes
returns-then-seat-len-clause-goes g c = goes_refl c.args.self.now.worker

pub returns-in-Nothing-clause-left : goal.returns-in-Nothing-clause-left
returns-in-Nothing-clause-left g c = λ within bit. record {
  last = c.args.self.now.worker;
  goes = goes_refl c.args.self.now.worker;
  found = c.in-Nothing.ensures.rests refl;
}
