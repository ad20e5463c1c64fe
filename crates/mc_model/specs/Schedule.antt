-- The effect of an event, and of a list of events.
use Rattle.std.specs.Prelude.{ℕ, ◌≡◌, ◌⊎◌, List, [], ◌∷◌}
use Rattle.mc_sizes.specs.declared.sizes.Sizes.{Sizes}
use Rattle.mc_model.specs.declared.event.StepReply.{StepReply}
use Rattle.mc_model.specs.declared.event.StepReply.TheVariants.{Done, Idle, NoMemory}
use Rattle.mc_model.specs.World.{Link, World, empty_world}
use Rattle.mc_model.specs.Events.{Allows, Changes, Event, TakesMemory, rule_of}

-- The event may happen.
abbrev pub Enabled : Sizes → World → Event → Type 0
Enabled sizes w event = (k : ℕ) × (link : Link) × Allows sizes w event k link

-- The event may be idle although it is enabled.
abbrev pub Spared : Sizes → World → Event → Type 0
Spared sizes w event = (rule_of event).spares sizes w

-- An event is done only if it is enabled; it is idle if it isn't, or if it may be; only an enabled one that
-- takes memory can be refused it. An event that isn't done changes nothing.
abbrev pub Happens : Sizes → World → Event → StepReply → World → Type 0
Happens sizes w event Done w' = (k : ℕ) × (link : Link) × Allows sizes w event k link × Changes sizes w event k link w'
Happens sizes w event Idle w' = (¬ Enabled sizes w event ⊎ Spared sizes w event) × (w' ≡ w)
Happens sizes w event NoMemory w' = (TakesMemory event × Enabled sizes w event) × (w' ≡ w)

-- These events, one after another, lead from a world to a world.
abbrev pub Leads : Sizes → World → List Event → World → Type 0
Leads sizes w [] w' = w' ≡ w
Leads sizes w (event ∷ events) w' =
    (reply : StepReply) × (mid : World) × Happens sizes w event reply mid × Leads sizes mid events w'

-- These events lead to this world from the initial one.
abbrev pub Schedule : Sizes → List Event → World → Type 0
Schedule sizes events w = Leads sizes empty_world events w
