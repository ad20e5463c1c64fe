use Rattle.std.proofs.Common.{arith}
use Rattle.mc_model.specs.declared.event.StepReply.TheVariants as replied
use Rattle.mc_sim.proofs.SimRun.{runs_none, runs_next, runs_until, runs_all}
use Rattle.mc_sim.proofs.sim.Sim.run.Goals as goal
use Rattle.mc_sim.proofs.sim.Sim.run.Goals.{in-Done, in-Idle}

pub loop-event-init : goal.loop-event-init
loop-event-init c = record { ran = runs_none c.args.self.now; few = omega arith }

pub loop-event-preserved : goal.loop-event-preserved
loop-event-preserved c = record {
  ran = elim c.match-step.branch [
    | in-Done w ↦ runs_next c.args.self.now c.loop-event.self c.step.new.self c.args.events.now c.loop-event.event-index
        c.event-item.result replied.Done c.loop-event.done c.match-step.done c.loop-event-test.true c.event-item.is
        c.loop-event.invariant.ran w.in-Done.ensures (λ same. absurd cc) w.done-is
    | in-Idle w ↦ runs_next c.args.self.now c.loop-event.self c.step.new.self c.args.events.now c.loop-event.event-index
        c.event-item.result replied.Idle c.loop-event.done c.match-step.done c.loop-event-test.true c.event-item.is
        c.loop-event.invariant.ran w.in-Idle.ensures (λ same. absurd cc) (omega (arith, w.done-is))
  ];
  few = elim c.match-step.branch [
    | in-Done w ↦ omega (arith, w.done-is, c.loop-event.invariant.few)
    | in-Idle w ↦ omega (arith, w.done-is, c.loop-event.invariant.few)
  ];
}

pub returns-in-NoMemory-clause-stopped : goal.returns-in-NoMemory-clause-stopped
returns-in-NoMemory-clause-stopped c =
    runs_until c.args.self.now c.loop-event.self c.step.new.self c.args.events.now c.loop-event.event-index
    c.event-item.result c.loop-event.done c.loop-event-test.true c.event-item.is c.loop-event.invariant.ran
    c.in-NoMemory.ensures

pub returns-clause-ran : goal.returns-clause-ran
returns-clause-ran c =
    runs_all c.args.self.now c.loop-event.self c.args.events.now c.loop-event.event-index c.loop-event.done
    (omega (arith, c.loop-event-test.false)) c.loop-event.invariant.ran
