-- The seats' ends of all channels and the workers of all shards, each at the index of its number.
use Rattle.std.specs.Prelude.{ℕ, ◌≡◌, ◌<◌, Some, List, length, slice_set}
use Rattle.std.specs.List.{slice_get}
use Rattle.mc_ring.specs.Channel.{Near}
use Rattle.mc_ring.specs.Ends.{Ends}
use Rattle.mc_ring.specs.Made.{IsChannel, LooksAtBoth}
use Rattle.mc_worker.specs.WorkerState.{WorkerState}

pub record Laid : Type 0 where
  pub seats : List (Ends Near)
  pub workers : List WorkerState
  -- the capacity of one ring
  pub places : ℕ

-- Each seat and each worker is at the index of its number, and there is a channel between each two.
pub record AreLaid (laid : Laid) : Type 0 where
  pub seat_number : (c : ℕ) (seat : Ends Near) → slice_get laid.seats c ≡ Some seat → seat.number ≡ c
  pub worker_number : (s : ℕ) (worker_state : WorkerState) → slice_get laid.workers s ≡ Some worker_state
      → worker_state.ends.number ≡ s
  pub each_channel : (c s : ℕ) (seat : Ends Near) (worker_state : WorkerState) → slice_get laid.seats c
      ≡ Some seat → slice_get laid.workers s ≡ Some worker_state → IsChannel seat worker_state.ends

-- The seat and the shard exist.
abbrev pub AreIn : Laid → ℕ → ℕ → Type 0
AreIn laid seat shard = (seat < length laid.seats) × (shard < length laid.workers)

-- The channel of a seat and a shard was looked at from both ends, and nothing else has changed.
pub record LooksAt (c s : ℕ) (old new : Laid) (pieces replies : ℕ) : Type 0 where
  pub seat : Ends Near
  pub seat_after : Ends Near
  pub worker_state : WorkerState
  pub worker_state_after : WorkerState
  pub seat_here : slice_get old.seats c ≡ Some seat
  pub worker_state_here : slice_get old.workers s ≡ Some worker_state
  pub looked : LooksAtBoth seat seat_after worker_state.ends worker_state_after.ends pieces replies
  pub rest : worker_state_after ≡ record worker_state { ends = worker_state_after.ends }
  pub set : new ≡ record old
      { seats = slice_set old.seats c seat_after; workers = slice_set old.workers s worker_state_after }
