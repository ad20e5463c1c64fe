-- Progress: what the parts can still do by themselves, and an upper bound of it.
use Rattle.std.specs.Prelude.{ℕ, ◌≡◌, ◌+◌, ◌*◌, ◌≤◌, false, List, [], ◌∷◌, length, Some}
use Rattle.std.specs.List.{AllByRecursion, slice_get}
use Rattle.mc_command.specs.declared.command.Command.{Command}
use Rattle.mc_sizes.specs.declared.sizes.Sizes.{Sizes}
use Rattle.mc_split.specs.Pieces.{pieces_of}
use Rattle.mc_model.specs.Sized.{SpellAll}
use Rattle.mc_model.specs.World.{IsLink, Link, World}
use Rattle.mc_model.specs.Rest.{AtRest}
use Rattle.mc_model.specs.Events.{Event}
use Rattle.mc_model.specs.Events.Event.{Open, Feed, End, Break}
use Rattle.mc_model.specs.Schedule.{Happens, Leads, Spared}
use Rattle.mc_model.specs.declared.event.StepReply.TheVariants.{Done}
use Rattle.mc_model.specs.Headline.{AreAllReplies, OfEach}
use Rattle.mc_sim.specs.Runs.{done_in}

-- The server does it by itself: no client acts.
abbrev pub IsWork : Event → Type 0
IsWork (Open seat) = ⊥
IsWork (Feed seat bytes) = ⊥
IsWork (End seat) = ⊥
IsWork (Break seat) = ⊥
IsWork event = Unit {0}

-- It is no input: no connection opens, and no bytes come.
abbrev pub IsNoInput : Event → Type 0
IsNoInput (Open seat) = ⊥
IsNoInput (Feed seat bytes) = ⊥
IsNoInput event = Unit {0}

-- Nothing is left to do, on any connection.
abbrev pub AllAtRest : Sizes → World → Type 0
AllAtRest sizes w = OfEach w (λ k link. AtRest sizes link)

-- Each connection that hasn't failed was sent the replies to all commands in its input.
abbrev pub AllReplied : Sizes → World → Type 0
AllReplied sizes w = OfEach w (λ k link. link.broken ≡ false → AreAllReplies sizes w k link)

-- Some work is enabled, may not be idle, and can be done.
pub record HasWork (sizes : Sizes) (w : World) : Type 0 where
  pub event : Event
  pub work : IsWork event
  pub next : World
  pub happens : Happens sizes w event Done next
  pub sure : Spared sizes w event → ⊥

-- two steps for each command, which is parsed and answered, and four for each of its pieces, which is sent,
-- run, returned and received
abbrev pub steps_of : ℕ → List Command → ℕ
steps_of shards [] = 0
steps_of shards (command ∷ commands) = 2 + 4 * length (pieces_of shards command) + steps_of shards commands

-- the steps for the commands of each connection, and two for the connection, which may end and may fail
abbrev pub steps_of_all : ℕ → List (List Command) → ℕ
steps_of_all shards [] = 0
steps_of_all shards (commands ∷ others) = 2 + steps_of shards commands + steps_of_all shards others

-- Without input, however many events are tried, no more are done than there are steps for the commands in the
-- input of all connections.
pub record IsBounded (sizes : Sizes) (w : World) : Type 0 where
  pub commands : List (List Command)
  pub of_each : length commands ≡ length w.links
  pub spelled : (k : ℕ) (link : Link) (own : List Command) → IsLink w k link → slice_get commands k ≡ Some own
      → SpellAll sizes link.fed own
  pub most : (events : List Event) (later : World) (led : Leads sizes w events later)
      → AllByRecursion IsNoInput events →
      done_in sizes w events later led ≤ steps_of_all sizes.shards commands

-- Some work leads to a world where all connections are at rest, and then all replies are written.
pub record CanComeToRest (sizes : Sizes) (w : World) : Type 0 where
  pub events : List Event
  pub work : AllByRecursion IsWork events
  pub later : World
  pub led : Leads sizes w events later
  pub rest : AllAtRest sizes later
  pub replied : AllReplied sizes later
