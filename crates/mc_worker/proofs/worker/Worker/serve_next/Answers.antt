use Rattle.mc_worker.proofs.Serving.{next_free, next_goes, next_marks, next_serves}
use Rattle.mc_worker.proofs.worker.Worker.serve_next.Goals as goal

pub returns-clause-goes : goal.returns-clause-goes
returns-clause-goes g c =
    next_goes c.args.self.now c.args.seat c.run_next.result _ (rw (← c.self.view_is) c.self.invariant.0)
    c.requires.seat c.run_next.ensures

pub returns-clause-marks : goal.returns-clause-marks
returns-clause-marks g c = λ marks known.
    next_marks c.args.self.now c.args.seat c.run_next.result _ marks (rw (← c.self.view_is) c.self.invariant.0)
    c.requires.seat c.run_next.ensures known

pub returns-clause-serves : goal.returns-clause-serves
returns-clause-serves g c = λ found.
    next_serves c.args.self.now c.args.seat c.run_next.result _ (rw (← c.self.view_is) c.self.invariant.0)
    c.requires.seat c.run_next.ensures found

pub returns-clause-nothing : goal.returns-clause-nothing
returns-clause-nothing g c = λ none. rw none at c.run_next.ensures

pub returns-clause-free : goal.returns-clause-free
returns-clause-free g c = λ room. next_free c.args.self.now c.args.seat c.run_next.result _ c.run_next.ensures room
