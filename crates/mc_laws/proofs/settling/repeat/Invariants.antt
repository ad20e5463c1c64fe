use Rattle.std.proofs.Common.{map, ◌-◌, ◌^◌}
use Rattle.mc_sim.specs.Asked.{event_of}
use Rattle.mc_laws.specs.internal.Rounds.{Tried}
use Rattle.mc_laws.proofs.settling.repeat.Given as goal

abbrev pub invariant-loop : goal.invariant-loop
invariant-loop l = Tried l.fn.sim (map event_of l.events) l.counter l.sim

abbrev pub decreases-loop : goal.decreases-loop
decreases-loop l = 2 ^ 128 - l.counter
