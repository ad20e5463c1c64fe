-- The world of the simulator after its run is the one that is reported.
use Rattle.std.proofs.Common.{ap, map, arith}
use Rattle.std.proofs.lemmas.List.{length-map}
use Rattle.mc_model.specs.World.{empty_world}
use Rattle.mc_sim.specs.Asked.{event_of}
use Rattle.mc_replay.specs.Schedule.{events_of}
use Rattle.mc_replay.proofs.Telling.{is_report_of}
use Rattle.mc_replay.proofs.run.report_of.Goals as goal

pub returns-in-Ok-report : goal.returns-in-Ok-report
returns-in-Ok-report g c =
    let plan = c.args.schedule.now in
    let ran = c.in-Ok-run_all.ensures plan.sizes empty_world c.in-Ok.ensures.ok in
    let count = length-map plan.events.items event_of in
    is_report_of plan.sizes (events_of plan) (map event_of c.deref.result.now) c.in-Ok-report.text.items
    c.in-Ok-run_all.done c.saturating_sub-idle.result
    (ap (map event_of) c.deref.ensures.value) (omega (arith, count, c.saturating_sub-idle.ensures, c.len.ensures))
    (ran.0.later, ran.0.led, ran.0.memory, ran.1, c.in-Ok-report.ensures plan.sizes ran.0.later ran.0.stands)
