use Rattle.std.proofs.Common.{map, ◌*◌, ◌-◌, ◌^◌}
use Rattle.mc_sim.specs.Asked.{event_of}
use Rattle.mc_laws.specs.internal.Rounds.{Tried}
use Rattle.mc_laws.proofs.settling.settle.Given as goal

abbrev pub invariant-loop : goal.invariant-loop
invariant-loop l = Tried l.fn.sim (map event_of l.events.items) (l.counter * (2 ^ 128 - 1)) l.sim
