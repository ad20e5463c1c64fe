-- What a history has of an actor's events.
use Rattle.std.specs.Prelude.{◌≡◌, List}
use Rattle.mc_model.specs.Grows.{Lengthens}
use Rattle.mc_history.specs.declared.event.Event.{Event}
use Rattle.mc_history.specs.Roles.{own_part}
use Rattle.mc_history.specs.Tokens.{Acting}

-- The history has all that the actor has seen, and of its own events no more.
pub record IsWholeIn (history : List Event) (actor : Acting) : Type 0 where
  pub seen : Lengthens actor.events history
  pub own : own_part actor.role history ≡ own_part actor.role actor.events
