use Rattle.std.proofs.Common.{◌≡◌, ◌++◌, map}
use Rattle.mc_sim.specs.Asked.{event_of}
use Rattle.mc_laws.specs.Settling.{channels_round}
use Rattle.mc_laws.proofs.settling.add_seat.Given as goal

abbrev pub invariant-loop-shard : goal.invariant-loop-shard
invariant-loop-shard l =
    map event_of l.events.items ≡ map event_of l.initial.events.items ++ channels_round l.seat l.shard
