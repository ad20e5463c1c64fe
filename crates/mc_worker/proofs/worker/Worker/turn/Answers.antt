use Rattle.mc_worker.proofs.Turning.{turned_gives, turned_grows, turned_keeps}
use Rattle.mc_worker.proofs.worker.Worker.turn.Goals as goal

pub returns-clause-grows : goal.returns-clause-grows
returns-clause-grows g c = turned_grows _ _ _ _ (rw (← c.self.view_is) c.self.invariant.0) c.requires c.step.ensures

pub returns-clause-keeps : goal.returns-clause-keeps
returns-clause-keeps g c = turned_keeps _ _ _ _ (rw (← c.self.view_is) c.self.invariant.0) c.requires c.step.ensures

pub returns-clause-gives : goal.returns-clause-gives
returns-clause-gives g c = turned_gives _ _ _ _ (rw (← c.self.view_is) c.self.invariant.0) c.requires c.step.ensures
