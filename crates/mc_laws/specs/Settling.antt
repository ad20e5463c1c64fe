-- Settling: the server's own events are tried in a fixed order, repeatedly, until none of them is enabled.
use Rattle.std.specs.Prelude.{ℕ, zero, suc, List, [], ◌∷◌, ◌++◌}
use Rattle.std.specs.List.{AllByRecursion}
use Rattle.mc_sizes.specs.declared.sizes.Sizes.{Sizes}
use Rattle.mc_sim.specs.declared.sim.Sim.{Sim}
use Rattle.mc_model.specs.World.{World}
use Rattle.mc_model.specs.Events.{Event}
use Rattle.mc_model.specs.Events.Event.{Take, Send, Pop, Give, Receive, Hand}
use Rattle.mc_sim.specs.Runs.{StandsAfter}
use Rattle.mc_sim.specs.Stands.{Stands}
use Rattle.mc_laws.specs.Progress.{AllAtRest, AllReplied, IsWork}

-- the events between a seat and a shard
abbrev pub channel_round : ℕ → ℕ → List Event
channel_round seat shard = Pop shard seat ∷ Give shard ∷ Receive seat shard ∷ []

-- the events between a seat and each of a number of shards
abbrev pub channels_round : ℕ → ℕ → List Event
channels_round seat zero = []
channels_round seat (suc shard) = channels_round seat shard ++ channel_round seat shard

-- the events of a seat
abbrev pub seat_round : ℕ → ℕ → ℕ → List Event
seat_round shards moment seat = (Take seat moment ∷ Send seat ∷ []) ++ channels_round seat shards ++ Hand seat ∷ []

-- all events that these seats and shards can do by themselves, each once
abbrev pub round : ℕ → ℕ → ℕ → List Event
round zero shards moment = []
round (suc seat) shards moment = round seat shards moment ++ seat_round shards moment seat

-- the events, repeated this number of times
abbrev pub repeated : ℕ → List Event → List Event
repeated zero events = []
repeated (suc times) events = repeated times events ++ events

-- In any world, the simulator tried the round a number of times. Now all connections are at rest, and each
-- that hasn't failed was sent the replies to all its commands.
abbrev pub Settles : Sim → ℕ → Sim → Type 0
Settles old moment new =
    (sizes : Sizes) (w : World) → Stands sizes old w →
    (times : ℕ) × (ran : StandsAfter sizes w (repeated times (round sizes.seats sizes.shards moment)) new)
    × AllAtRest sizes ran.later × AllReplied sizes ran.later

-- In any world, the simulator did some work, and no step was refused memory.
abbrev pub Works : Sim → Sim → Type 0
Works old new =
    (sizes : Sizes) (w : World) → Stands sizes old w → (events : List Event) × AllByRecursion IsWork events
    × StandsAfter sizes w events new
