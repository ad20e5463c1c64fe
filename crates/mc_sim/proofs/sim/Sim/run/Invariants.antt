use Rattle.std.proofs.Common.{◌≤◌, map, take}
use Rattle.mc_sim.specs.Asked.{event_of}
use Rattle.mc_sim.specs.Runs.{Runs}
use Rattle.mc_sim.proofs.sim.Sim.run.Given as goal

abbrev pub invariant-loop-event : goal.invariant-loop-event
invariant-loop-event l = record {
  ran : Runs l.fn.self (map event_of (take l.event-index l.events)) l.done l.self;
  few : l.done ≤ l.event-index;
}
