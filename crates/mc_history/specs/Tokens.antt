-- A history and its tokens as contracts see them.
use Rattle.std.specs.Prelude.{ℕ, ◌≡◌, List, [], ◌∷◌, ◌++◌, map}
use Rattle.mc_ring.specs.Route.{Name}
use Rattle.mc_model.specs.Grows.{Lengthens}
use Rattle.mc_history.specs.declared.event.Event.{Event}
use Rattle.mc_history.specs.declared.knowledge.Role.{Role}
use Rattle.mc_conn.specs.History.{Taken}
use Rattle.mc_history.specs.Worlds.{took}
use Rattle.mc_history.specs.Roles.{own_part, seat_of}

-- what evidence shows: of this history, these were the events so far
pub record Sight : Type 0 where
  pub name : Name
  pub events : List Event

-- an actor: whose events it may add, and the events that it has seen
pub record Acting : Type 0 where
  pub name : Name
  pub role : Role
  pub events : List Event

-- the seats and the shards that have no actor yet: these, and all behind them
pub record Waiting : Type 0 where
  pub name : Name
  pub seats : ℕ
  pub shards : ℕ

-- The event was added to all that had happened, of which the actor knew its own part.
pub record Adds (event : Event) (old new : Acting) : Type 0 where
  pub name : new.name ≡ old.name
  pub role : new.role ≡ old.role
  pub before : List Event
  pub more : Lengthens old.events before
  pub events : new.events ≡ before ++ event ∷ []
  pub own : own_part new.role new.events ≡ own_part old.role old.events ++ event ∷ []

-- The last connection on the actor's seat took these commands, after all that had happened, of which the actor knew its
-- own part.
pub record TakesAll (connection : ℕ) (taken : List Taken) (old new : Acting) : Type 0 where
  pub name : new.name ≡ old.name
  pub role : new.role ≡ old.role
  pub before : List Event
  pub more : Lengthens old.events before
  pub events : new.events ≡ before ++ map (took (seat_of old.role) connection) taken
  pub own : own_part new.role new.events ≡ own_part old.role old.events
      ++ map (took (seat_of old.role) connection) taken

-- The actor has seen these events too. It did nothing.
pub record Sees (heard : List Event) (old new : Acting) : Type 0 where
  pub name : new.name ≡ old.name
  pub role : new.role ≡ old.role
  pub more : Lengthens old.events new.events
  pub heard_too : Lengthens heard new.events
  pub own : own_part new.role new.events ≡ own_part old.role old.events
