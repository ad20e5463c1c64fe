use Rattle.std.proofs.Common.{◌≡◌, map}
use Rattle.mc_sim.specs.Asked.{event_of}
use Rattle.mc_laws.specs.Settling.{round}
use Rattle.mc_laws.proofs.settling.round_of.Given as goal

abbrev pub invariant-loop-seat : goal.invariant-loop-seat
invariant-loop-seat l = map event_of l.events.items ≡ round l.seat l.shards l.moment
