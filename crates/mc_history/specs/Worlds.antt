-- What a history says: which connections were opened, what each of them took, and what the shards ran.
use Rattle.std.specs.Prelude.{ℕ, zero, suc, ◌≡◌, ◌≢◌, ◌+◌, ◌<◌, ◌==◌, Bool, false, List, [], ◌∷◌, ◌++◌, Some, filter}
use Rattle.std.specs.Prelude.{length, map, slice_index_or, if◌then◌else◌}
use Rattle.std.specs.List.{flat_map, slice_get}
use Rattle.std.specs.Option.{option_map_or}
use Rattle.mc_split.specs.declared.plan.Piece.{Piece}
use Rattle.mc_conn.specs.Due.{due}
use Rattle.mc_conn.specs.History.{Taken}
use Rattle.mc_model.specs.Log.{Entry, on_shard}
use Rattle.mc_model.specs.World.{Link, World, new_link}
use Rattle.mc_history.specs.declared.event.Event.{Event}
use Rattle.mc_history.specs.declared.event.Event.TheVariants.{Opened, Took, Ran}

-- the seat of a connection that was opened
abbrev pub seats_of : Event → List ℕ
seats_of (Opened seat) = seat ∷ []
seats_of (Took seat connection command moment server given_up) = []
seats_of (Ran shard asker piece answer) = []

-- the command that was taken, where the connection of this number took one
abbrev pub taken_of : ℕ → Event → List Taken
taken_of k (Opened seat) = []
taken_of k (Took seat connection command moment server given_up) =
    if connection == k then record { entry = command; moment = moment; server = server; given_up = given_up } ∷ [] else
    []
taken_of k (Ran shard asker piece answer) = []

-- that a connection took this, on this seat
abbrev pub took : ℕ → ℕ → Taken → Event
took seat connection one = Took seat connection one.entry one.moment one.server one.given_up

-- what a shard ran, as the log has it
abbrev pub entries_of : Event → List Entry
entries_of (Opened seat) = []
entries_of (Took seat connection command moment server given_up) = []
entries_of (Ran shard asker piece answer) = record { shard = shard; asker = asker; piece = piece; answer = answer } ∷ []

-- the seats of all connections that were opened, by their numbers
abbrev pub seats_in : List Event → List ℕ
seats_in history = flat_map seats_of history

-- all commands that the connection of this number took, in order
abbrev pub taken_in : ℕ → List Event → List Taken
taken_in k history = flat_map (taken_of k) history

-- all that the shards ran, in order
abbrev pub ran_in : List Event → List Entry
ran_in history = flat_map entries_of history

-- The connection of this number was opened.
abbrev pub IsOpened : ℕ → List Event → Type 0
IsOpened k history = k < length (seats_in history)

-- The connection of this number is the last that was opened on this seat.
pub record IsLastOn (seat k : ℕ) (history : List Event) : Type 0 where
  pub here : slice_get (seats_in history) k ≡ Some seat
  pub last : (later : ℕ) → k < later → slice_get (seats_in history) later ≢ Some seat

-- the connection of this number, with what it took
abbrev pub link_in : ℕ → List Event → Link
link_in k history = record (new_link (slice_index_or (seats_in history) k 0)) { taken = taken_in k history }

-- the first count connections, in order
abbrev pub links_in : ℕ → List Event → List Link
links_in zero history = []
links_in (suc count) history = links_in count history ++ link_in count history ∷ []

-- the world that the events lead to: what the shards ran, and of each connection its seat and what it took
abbrev pub world_in : List Event → World
world_in history = record { log = ran_in history; links = links_in (length (seats_in history)) history }

-- of connections with these seats, the first of which has this number, those on one seat
abbrev pub numbers_on : ℕ → ℕ → List ℕ → List ℕ
numbers_on seat number [] = []
numbers_on seat number (one ∷ seats) =
    if one == seat then number ∷ numbers_on seat (number + 1) seats else numbers_on seat (number + 1) seats

-- a connection's pieces that are due at a shard, each with the connection's number
abbrev pub work_of : ℕ → ℕ → List Event → ℕ → List (ℕ × Piece)
work_of shards shard history k = map (λ piece. (k, piece)) (due shards shard (taken_in k history))

-- What is due on the channel from a seat to a shard: of the seat's connections, one after another, the pieces due at
-- the shard.
abbrev pub work_on : ℕ → ℕ → ℕ → List Event → List (ℕ × Piece)
work_on shards seat shard history = flat_map (work_of shards shard history) (numbers_on seat 0 (seats_in history))

-- the connection that asked, and the piece
abbrev pub asked : Entry → ℕ × Piece
asked entry = (entry.asker, entry.piece)

-- whether a connection was opened on this seat
abbrev pub is_on : ℕ → List ℕ → ℕ → Bool
is_on seat seats k = option_map_or (λ one. one == seat) (slice_get seats k) false

-- what a shard ran for the connections of a seat, in order
abbrev pub ran_on : ℕ → ℕ → List Event → List Entry
ran_on seat shard history =
    filter (λ entry. is_on seat (seats_in history) entry.asker) (on_shard shard (ran_in history))
