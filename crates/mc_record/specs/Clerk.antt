-- A seat's actor as the record of what the seat's connections take.
use Rattle.std.specs.Prelude.{ℕ, ◌≡◌, ◌<◌, true, List, [], ◌∷◌, map}
use Rattle.mc_wire.specs.Sink.{Sight}
use Rattle.mc_ring.specs.Reply.{Shown}
use Rattle.mc_split.specs.declared.plan.Piece.{Piece}
use Rattle.mc_conn.specs.History.{Taken}
use Rattle.mc_model.specs.Log.{replies_in}
use Rattle.mc_history.specs.declared.knowledge.Role.TheVariants.{Seat}
use Rattle.mc_history.specs.Lawful.{IsHistory}
use Rattle.mc_history.specs.Roles.{seat_of}
use Rattle.mc_history.specs.Tokens.{Acting}
use Rattle.mc_history.specs.Worlds.{IsLastOn, numbers_on, ran_on, seats_in, taken_in, work_on}
use Rattle.mc_transport.specs.Clerk.{IsOwed as IsOwedBy}
use Rattle.mc_transport.specs.Place.{Place, bytes_seen}

-- It acts for a seat that is there, and has seen a lawful history.
pub record IsSeatActor (actor : Acting) : Type 0 where
  pub role : actor.role ≡ Seat (seat_of actor.role)
  pub within : seat_of actor.role < actor.name.sizes.seats
  pub lawful : IsHistory actor.name.sizes actor.events

-- the last of a number and those behind it
abbrev pub last_after : ℕ → List ℕ → ℕ
last_after k [] = k
last_after k (j ∷ later) = last_after j later

-- the last connection on the seat
abbrev pub connection_of : Acting → ℕ
connection_of actor = last_after 0 (numbers_on (seat_of actor.role) 0 (seats_in actor.events))

-- A connection was opened on the seat.
abbrev pub HasOpened : Acting → Type 0
HasOpened actor = IsLastOn (seat_of actor.role) (connection_of actor) actor.events

-- what the seat's last connection took
abbrev pub taken_now : Acting → List Taken
taken_now actor = taken_in (connection_of actor) actor.events

-- what is due on the channel to a shard, for all connections of the seat
abbrev pub work_at : Acting → ℕ → List Piece
work_at actor shard = map (λ one. one.1) (work_on actor.name.sizes.shards (seat_of actor.role) shard actor.events)

-- the replies to what was run on the channel to a shard
abbrev pub answers_at : Acting → ℕ → List Shown
answers_at actor shard = replies_in (ran_on (seat_of actor.role) shard actor.events)

-- the place of the line of the seat's last connection, of which this was seen at its beginning
abbrev pub place_of : Acting → Sight → Place
place_of actor begin =
    record { name = actor.name; begun = true; number = connection_of actor; begin = bytes_seen begin }

-- The line of the seat's last connection is owed these bytes next, by what the actor has seen. What is seen of the line
-- was so at its beginning, and is so now.
pub record IsOwed (actor : Acting) (begin now : Sight) (bytes : List ℕ) : Type 0 where
  pub opened : HasOpened actor
  pub owed : IsOwedBy actor.name.sizes (work_at actor) (taken_now actor) (answers_at actor) begin now bytes
