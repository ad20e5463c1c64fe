-- A worker as contracts see it, and what the log of what it ran says of it.
use Rattle.std.specs.Prelude.{ℕ, ◌≡◌, ◌<◌, ◌==◌, Bool, true, false, Option, Some, None, List, [], ◌∷◌, ◌++◌, length}
use Rattle.std.specs.Prelude.{map, if◌then◌else◌}
use Rattle.std.specs.List.{AllByRecursion, slice_get}
use Rattle.mc_ring.specs.declared.request.Request.{Request}
use Rattle.mc_ring.specs.declared.request.Request.TheVariants as request
use Rattle.mc_ring.specs.Reply.{Shown}
use Rattle.mc_ring.specs.Channel.{Far}
use Rattle.mc_ring.specs.Ends.{AreSameEnds, Ends, received_on, sent_on}
use Rattle.mc_store.specs.State.{State}
use Rattle.mc_store.specs.Shard.{ShardContents, Keeps}
use Rattle.mc_model.specs.Log.{Entry, Run, of_asker, pieces_in, replies_in}

pub record WorkerState : Type 0 where
  -- what its shard holds
  pub shard : ShardContents
  -- the shard's ends of its channels
  pub ends : Ends Far
  -- the reply that is not given yet, and the seat that it is for
  pub hand : Option (ℕ × Shown)
  -- of each channel, whether its End is still to come
  pub live : List Bool

-- There is a mark for each channel, and a pending reply is for a seat whose End is still to come.
pub record IsWellMarked (worker_state : WorkerState) : Type 0 where
  pub marked : length worker_state.live ≡ length worker_state.ends.channels
  pub holder : (seat : ℕ) (reply : Shown) → worker_state.hand ≡ Some (seat, reply)
      → slice_get worker_state.live seat ≡ Some true

-- the pending reply, where it is for this seat
abbrev pub in_hand : ℕ → Option (ℕ × Shown) → List Shown
in_hand seat None = []
in_hand seat (Some held) = if held.0 == seat then held.1 ∷ [] else []

-- the End of a channel, where it has come
abbrev pub end_come : Option Bool → List Request
end_come None = []
end_come (Some true) = []
end_come (Some false) = request.End ∷ []

-- The log is what the worker ran, from a state on: one run of the protocol's step, which leads to what the shard holds;
-- what it took of each seat are that seat's pieces in the log, then perhaps End; what it sent to the seat, then the
-- pending reply, are the replies to these pieces.
pub record HasRun (begin : State) (worker_state : WorkerState) (log : List Entry) : Type 0 where
  pub state : State
  pub ran : Run begin log state
  pub kept : Keeps worker_state.shard state
  pub taken : (seat : ℕ) → received_on worker_state.ends seat ≡ map request.Piece (pieces_in (of_asker seat log))
      ++ end_come (slice_get worker_state.live seat)
  pub given : (seat : ℕ) → replies_in (of_asker seat log)
      ≡ sent_on worker_state.ends seat ++ in_hand seat worker_state.hand
  pub each : AllByRecursion
      (λ entry. (entry.shard ≡ worker_state.ends.number) × (entry.asker < length worker_state.ends.channels)) log

-- Whatever the worker had run, it has run this more.
abbrev pub RunsMore : WorkerState → WorkerState → List Entry → Type 0
RunsMore old new more = (begin : State) (log : List Entry) → HasRun begin old log → HasRun begin new (log ++ more)

-- Whatever the worker had run, it has run no more.
abbrev pub RunsNoMore : WorkerState → WorkerState → Type 0
RunsNoMore old new = (begin : State) (log : List Entry) → HasRun begin old log → HasRun begin new log

-- Turns were made, on the same channels.
pub record Goes (old new : WorkerState) : Type 0 where
  pub ends : AreSameEnds old.ends new.ends
  pub more : List Entry
  pub ran : RunsMore old new more

-- The End of every channel has come.
abbrev pub HasEnded : WorkerState → Type 0
HasEnded worker_state = AllByRecursion (λ live. live ≡ false) worker_state.live
