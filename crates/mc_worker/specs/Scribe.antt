-- What a scribe records, and when its record fits a worker.
use Rattle.std.specs.Prelude.{ℕ, ◌≡◌, List, Some}
use Rattle.std.specs.List.{slice_get}
use Rattle.mc_item.specs.declared.answer.Answer.{Answer}
use Rattle.mc_split.specs.declared.plan.Piece.{Piece}
use Rattle.mc_ring.specs.Channel.{Far}
use Rattle.mc_ring.specs.Route.{Route}
use Rattle.mc_ring.specs.Ends.{Ends}
use Rattle.mc_store.specs.State.{State, empty_state}
use Rattle.mc_store.specs.Step.{IsStep}
use Rattle.mc_model.specs.Log.{Entry, Run}
use Rattle.mc_worker.specs.WorkerState.{WorkerState, HasRun}

-- After the log, from a state on, the piece is run with this answer.
pub record Runs (begin : State) (log : List Entry) (piece : Piece) (answer : Answer) : Type 0 where
  pub before : State
  pub after : State
  pub ran : Run begin log before
  pub step : IsStep before piece.op piece.moment answer after

-- the state of no shard
abbrev pub no_state : State
no_state = empty_state 0 0 0 0 0

-- The channels of the shard have these routes, by their seats.
pub record AreOnRoutes (route : ℕ → Route) (ends : Ends Far) : Type 0 where
  pub each : (seat : ℕ) (end : Far) → slice_get ends.channels seat ≡ Some end → end.past.channel.route ≡ route seat
  pub shard : (seat : ℕ) → (route seat).shard ≡ ends.number

-- The record is of this worker: its channels have the record's routes, and it has run the record's log.
pub record IsRecorded (route : ℕ → Route) (begin : State) (log : List Entry) (worker_state : WorkerState) : Type 0 where
  pub routes : AreOnRoutes route worker_state.ends
  pub ran : HasRun begin worker_state log
