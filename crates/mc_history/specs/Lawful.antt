-- Which histories are lawful: each event may follow those before it.
use Rattle.std.specs.Prelude.{ℕ, ◌≡◌, ◌<◌, ◌≤◌, List, [], ◌∷◌, ◌++◌, length, map, Some}
use Rattle.std.specs.List.{AllByRecursion, slice_get}
use Rattle.mc_split.specs.declared.plan.Piece.{Piece}
use Rattle.mc_sizes.specs.declared.sizes.Sizes.{Sizes}
use Rattle.mc_conn.specs.History.{MayBeTaken}
use Rattle.mc_model.specs.Log.{IsLawful}
use Rattle.mc_model.specs.Events.{RunsNext}
use Rattle.mc_model.specs.Headline.{RanAsDue}
use Rattle.mc_history.specs.declared.event.Event.{Event}
use Rattle.mc_history.specs.declared.event.Event.TheVariants.{Opened, Took, Ran}
use Rattle.mc_history.specs.Worlds.{IsLastOn, asked, link_in, ran_in, ran_on, seats_in, taken_in, work_on, world_in}

-- A piece of this connection is the next on the channel from its seat to the shard: the shard ran as many before for
-- the seat.
pub record IsNextOnChannel (sizes : Sizes) (past : List Event) (shard k : ℕ) (piece : Piece) : Type 0 where
  pub seat : ℕ
  pub on_seat : slice_get (seats_in past) k ≡ Some seat
  pub next : slice_get (work_on sizes.shards seat shard past) (length (ran_on seat shard past)) ≡ Some (k, piece)

-- The event may happen after these: a connection is opened on a seat that is there; the last one on a seat takes a
-- command, which is given up only where it may be; a shard that is there runs the next piece of a channel, and that is
-- due there for its connection, with an answer that the protocol's step allows.
abbrev pub MayFollow : Sizes → List Event → Event → Type 0
MayFollow sizes past (Opened seat) = seat < sizes.seats
MayFollow sizes past (Took seat connection command moment server given_up) =
    IsLastOn seat connection past
    × MayBeTaken (record { entry = command; moment = moment; server = server; given_up = given_up })
MayFollow sizes past (Ran shard asker piece answer) =
    (shard < sizes.shards) × IsNextOnChannel sizes past shard asker piece
    × RunsNext sizes (world_in past) shard asker (link_in asker past)
    (record { shard = shard; asker = asker; piece = piece; answer = answer })

-- These events may follow what is past, one after another.
abbrev pub MayAllFollow : Sizes → List Event → List Event → Type 0
MayAllFollow sizes past [] = Unit {0}
MayAllFollow sizes past (event ∷ later) = MayFollow sizes past event × MayAllFollow sizes (past ++ event ∷ []) later

-- The history is lawful from its beginning.
abbrev pub IsHistory : Sizes → List Event → Type 0
IsHistory sizes history = MayAllFollow sizes [] history

-- What holds after each lawful history, in the words of the headline.
pub record Holds (sizes : Sizes) (history : List Event) : Type 0 where
  -- a command was given up only where it may be
  pub may : (k : ℕ) → AllByRecursion MayBeTaken (taken_in k history)
  -- each shard ran each connection's pieces once, in sending order
  pub in_order : (k : ℕ) → RanAsDue sizes (world_in history) k (link_in k history)
  -- and it ran nothing else
  pub owned : AllByRecursion (λ entry. (entry.shard < sizes.shards) × (entry.asker < length (seats_in history)))
      (ran_in history)
  -- each answer is the protocol's step on that shard's items
  pub steps : IsLawful sizes (ran_in history)
  -- each shard ran what was due on each channel, in order
  pub channels : (seat s : ℕ) → (rest : List (ℕ × Piece))
      × (map asked (ran_on seat s history) ++ rest ≡ work_on sizes.shards seat s history)
  -- a connection takes nothing before it is opened
  pub unopened : (k : ℕ) → length (seats_in history) ≤ k → taken_in k history ≡ []
  -- each connection has a seat that is there
  pub seated : AllByRecursion (λ seat. seat < sizes.seats) (seats_in history)
