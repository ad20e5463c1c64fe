-- What a worker did for a seat, and what it left there.
use Rattle.std.specs.Prelude.{ℕ, ◌≢◌}
use Rattle.mc_worker.specs.declared.worker.Turn.{Turn}
use Rattle.mc_worker.specs.declared.worker.Turn.TheVariants.{Nothing}
use Rattle.mc_worker.specs.WorkerState.{WorkerState, Goes}
use Rattle.mc_worker.specs.Turns.{FindsNothing, Turned}

-- A turn was made for the seat that found something to do, and perhaps more turns after it.
pub record ServesSeat (old : WorkerState) (seat : ℕ) (new : WorkerState) : Type 0 where
  pub turn : Turn
  pub next : WorkerState
  pub turned : Turned old seat turn next
  pub found : turn ≢ Nothing
  pub more : Goes next new

-- Turns were made, and the last one found nothing: no request on the seat's channel, and no pending reply.
pub record LeavesNothing (old : WorkerState) (seat : ℕ) (new : WorkerState) : Type 0 where
  pub last : WorkerState
  pub goes : Goes old last
  pub found : FindsNothing last seat new
