-- The remaining lines have the events that are missing so far.
use Rattle.std.proofs.Common.{◌≡◌, ◌++◌, map, Some}
use Rattle.mc_sim.specs.Asked.{event_of as shown}
use Rattle.mc_replay.specs.Schedule.{events_in}
use Rattle.mc_replay.specs.internal.Parts.{parts_left}
use Rattle.mc_replay.proofs.schedule.read_events.Given as goal

abbrev pub invariant-loop-line : goal.invariant-loop-line
invariant-loop-line l =
    events_in l.sizes (parts_left l.fn.lines) ≡ map Some (map shown l.events.items)
    ++ events_in l.sizes (parts_left l.line-iterator)
