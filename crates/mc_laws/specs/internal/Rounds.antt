-- Relations between the steps of settling.
use Rattle.std.specs.Prelude.{ℕ, ◌≡◌, ◌≤◌, ◌^◌, ◌-◌, Bool, List, MatchBool}
use Rattle.mc_sizes.specs.declared.sizes.Sizes.{Sizes}
use Rattle.mc_sim.specs.declared.sim.Sim.{Sim}
use Rattle.mc_model.specs.World.{World}
use Rattle.mc_model.specs.Events.{Event}
use Rattle.mc_model.specs.Schedule.{Leads}
use Rattle.mc_sim.specs.Runs.{FoundMemory, done_in}
use Rattle.mc_sim.specs.Stands.{Stands}
use Rattle.mc_laws.specs.Settling.{repeated}

-- The events were tried another time, and none was done.
pub record IsQuiet (sizes : Sizes) (w : World) (events : List Event) : Type 0 where
  pub led : Leads sizes w events w
  pub memory : FoundMemory sizes w events w led
  pub none : done_in sizes w events w led ≡ 0

-- The events were tried some number of times, and at least `least` of them were done.
pub record HasRepeated (sizes : Sizes) (w : World) (events : List Event) (least : ℕ) (new : Sim) : Type 0 where
  pub times : ℕ
  pub later : World
  pub led : Leads sizes w (repeated times events) later
  pub memory : FoundMemory sizes w (repeated times events) later led
  pub enough : least ≤ done_in sizes w (repeated times events) later led
  pub stands : Stands sizes new later

-- In any world, the events were tried, and at least `least` of them were done.
abbrev pub Tried : Sim → List Event → ℕ → Sim → Type 0
Tried old events least new = (sizes : Sizes) (w : World) → Stands sizes old w → HasRepeated sizes w events least new

-- In the end none of them can be done, or as many were done as are counted.
abbrev pub Repeats : Sim → List Event → Bool → Sim → Type 0
Repeats old events quiet new =
    (sizes : Sizes) (w : World) → Stands sizes old w →
    MatchBool quiet ((done : HasRepeated sizes w events 0 new) × IsQuiet sizes done.later events)
    (HasRepeated sizes w events (2 ^ 128 - 1) new)
