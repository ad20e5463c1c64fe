-- A shard's actor as the record of what the shard runs.
use Rattle.std.specs.Prelude.{ℕ, ◌≡◌, ◌<◌, List, length, map, slice_index_or}
use Rattle.std.specs.List.{slice_get}
use Rattle.std.specs.Option.{option_map_or}
use Rattle.mc_model.specs.Log.{Entry, on_shard}
use Rattle.mc_item.specs.declared.answer.Answer.{Answer}
use Rattle.mc_split.specs.declared.plan.Piece.{Piece}
use Rattle.mc_history.specs.declared.event.Event.{Event}
use Rattle.mc_history.specs.declared.event.Event.TheVariants.{Ran}
use Rattle.mc_history.specs.declared.knowledge.Role.{Role}
use Rattle.mc_history.specs.declared.knowledge.Role.TheVariants.{Reader, Seat, Shard, Rest}
use Rattle.mc_history.specs.Lawful.{IsHistory}
use Rattle.mc_history.specs.Tokens.{Acting}
use Rattle.mc_history.specs.Worlds.{ran_in, ran_on, seats_in, work_on}

-- the shard that an actor acts for
abbrev pub shard_of : Role → ℕ
shard_of Reader = 0
shard_of (Seat number) = 0
shard_of (Shard index) = index
shard_of (Rest seats shards) = 0

-- It acts for a shard that is there, and has seen a lawful history.
pub record IsShardActor (actor : Acting) : Type 0 where
  pub role : actor.role ≡ Shard (shard_of actor.role)
  pub within : shard_of actor.role < actor.name.sizes.shards
  pub lawful : IsHistory actor.name.sizes actor.events

-- an entry, with its connection's seat in place of the connection
abbrev pub seated : List ℕ → Entry → Entry
seated seats entry = record entry { asker = slice_index_or seats entry.asker 0 }

-- what the shard ran, each entry with its seat
abbrev pub log_in : Acting → List Entry
log_in actor = map (seated (seats_in actor.events)) (on_shard (shard_of actor.role) (ran_in actor.events))

-- whose piece a shard runs next for a seat
abbrev pub next_asker : ℕ → Acting → ℕ
next_asker seat actor =
    option_map_or (λ one. one.0)
    (slice_get (work_on actor.name.sizes.shards seat (shard_of actor.role) actor.events)
    (length (ran_on seat (shard_of actor.role) actor.events))) 0

-- that a shard runs the next piece of a channel
abbrev pub run_of : Acting → ℕ → Piece → Answer → Event
run_of actor seat piece answer = Ran (shard_of actor.role) (next_asker seat actor) piece answer
