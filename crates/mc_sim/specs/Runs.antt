-- Lists of events that a simulator runs, and how many of them were done.
use Rattle.std.specs.Prelude.{ℕ, ◌≡◌, ◌≢◌, ◌+◌, List, [], ◌∷◌, ◌++◌}
use Rattle.mc_sizes.specs.declared.sizes.Sizes.{Sizes}
use Rattle.mc_sim.specs.declared.sim.Sim.{Sim}
use Rattle.mc_sim.specs.Stands.{Stands}
use Rattle.mc_model.specs.World.{World}
use Rattle.mc_model.specs.Events.{Event}
use Rattle.mc_model.specs.declared.event.StepReply.{StepReply}
use Rattle.mc_model.specs.Schedule.{Happens, Leads}
use Rattle.mc_model.specs.declared.event.StepReply.TheVariants.{Done, NoMemory}

-- an event that was done counts once
abbrev pub is_done : StepReply → ℕ
is_done Done = 1
is_done reply = 0

-- how many events of a run were done
abbrev pub done_in : (sizes : Sizes) (w : World) (events : List Event) (w' : World) → Leads sizes w events w' → ℕ
done_in sizes w [] w' led = 0
done_in sizes w (event ∷ events) w' led = is_done led.0 + done_in sizes led.1 events w' led.3

-- No event of a run was refused memory.
abbrev pub FoundMemory : (sizes : Sizes) (w : World) (events : List Event) (w' : World) → Leads sizes w events w'
    → Type 0
FoundMemory sizes w [] w' led = Unit {0}
FoundMemory sizes w (event ∷ events) w' led = (led.0 ≢ NoMemory) × FoundMemory sizes led.1 events w' led.3

-- These events, none of which was refused memory, lead from this world to one of the simulator.
pub record StandsAfter (sizes : Sizes) (w : World) (events : List Event) (new : Sim) : Type 0 where
  pub later : World
  pub led : Leads sizes w events later
  pub memory : FoundMemory sizes w events later led
  pub stands : Stands sizes new later

-- From any world of the simulator, the events lead to a world of it, and `done` is the number of events done.
abbrev pub Runs : Sim → List Event → ℕ → Sim → Type 0
Runs old events done new =
    (sizes : Sizes) (w : World) → Stands sizes old w →
    (ran : StandsAfter sizes w events new) × (done ≡ done_in sizes w events ran.later ran.led)

-- The simulator ran exactly the events before the first one that was refused memory, and is in the world
-- after them.
abbrev pub Stops : Sim → List Event → Sim → Type 0
Stops old events new =
    (sizes : Sizes) (w : World) → Stands sizes old w →
    (front : List Event) × (last : Event) × (rest : List Event) × (events ≡ front ++ last ∷ rest)
    × (ran : StandsAfter sizes w front new) × Happens sizes ran.later last NoMemory ran.later
