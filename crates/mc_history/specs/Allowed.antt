-- Which requests and which replies may go on a channel, by a history that was seen.
use Rattle.std.specs.Prelude.{ℕ, ◌≡◌, List, length, Some}
use Rattle.std.specs.List.{slice_get}
use Rattle.mc_ring.specs.declared.request.Request.{Request}
use Rattle.mc_ring.specs.declared.request.Request.TheVariants.{End, Piece}
use Rattle.mc_ring.specs.Reply.{Shown}
use Rattle.mc_ring.specs.Route.{Route}
use Rattle.mc_model.specs.Log.{replies_in}
use Rattle.mc_history.specs.declared.event.Event.{Event}
use Rattle.mc_history.specs.Worlds.{ran_on, work_on}
use Rattle.mc_history.specs.Lawful.{IsHistory}
use Rattle.mc_history.specs.Tokens.{Sight}

-- These events are a lawful history, of the one that the channel's tokens are of.
pub record IsOfChannel (route : Route) (sight : Sight) : Type 0 where
  pub name : sight.name ≡ route.name
  pub lawful : IsHistory route.name.sizes sight.events

-- The request is the piece that is due on the channel after so many, or the End.
abbrev pub IsDueNext : Route → ℕ → Request → List Event → Type 0
IsDueNext route count End history = Unit {0}
IsDueNext route count (Piece piece) history =
    (k : ℕ) × (slice_get (work_on route.name.sizes.shards route.seat route.shard history) count ≡ Some (k, piece))

-- The request may be sent behind these.
abbrev pub MaySend : Route → List Request → Request → Sight → Type 0
MaySend route before request sight = IsOfChannel route sight × IsDueNext route (length before) request sight.events

-- The reply may be given behind these: it answers the piece that the shard ran on the channel after as many.
abbrev pub MayGive : Route → List Shown → Shown → Sight → Type 0
MayGive route before reply sight =
    IsOfChannel route sight ×
    (slice_get (replies_in (ran_on route.seat route.shard sight.events)) (length before) ≡ Some reply)
