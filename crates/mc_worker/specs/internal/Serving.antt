-- What serving the next request of a seat does.
use Rattle.std.specs.Prelude.{ℕ, Bool, true, List, slice_set}
use Rattle.mc_reply.specs.declared.ticket.Ticket.{Ticket}
use Rattle.mc_store.specs.declared.shard.Shard.{Shard}
use Rattle.mc_store.specs.State.{State}
use Rattle.mc_store.specs.Shard.{Keeps, held_of}
use Rattle.mc_model.specs.Log.{Entry, Run}
use Rattle.mc_worker.specs.declared.worker.Next.{Next}
use Rattle.mc_worker.specs.declared.worker.Next.TheVariants as next
use Rattle.mc_worker.specs.declared.worker.Turn.{Turn}
use Rattle.mc_worker.specs.declared.worker.Turn.TheVariants.{Blocked, Gave}
use Rattle.mc_worker.specs.WorkerState.{WorkerState}
use Rattle.mc_worker.specs.Turns.{FindsNothing, RunsPiece, TakesEnd, Turned}

-- The shard has run the log, from a state on.
abbrev pub RanOn : State → List Entry → Shard → Type 0
RanOn begin log shard = (state : State) × Run begin log state × Keeps (held_of shard) state

-- A piece of the seat was run, and a turn with this outcome followed.
pub record RunsThen (old : WorkerState) (seat : ℕ) (turn : Turn) (new : WorkerState) : Type 0 where
  pub ticket : Ticket
  pub part : ℕ
  pub moment : ℕ
  pub between : WorkerState
  pub ran : RunsPiece old seat ticket part moment between
  pub turned : Turned between seat turn new

-- The seat's next request was served, if there was one.
abbrev pub ServesNext : WorkerState → ℕ → Next → WorkerState → Type 0
ServesNext old seat next.Nothing new = FindsNothing old seat new
ServesNext old seat next.Ended new = TakesEnd old seat new
ServesNext old seat next.Sent new = RunsThen old seat Gave new
ServesNext old seat next.Full new = RunsThen old seat Blocked new

-- the marks, where the seat is marked if a reply was sent to it
abbrev pub marked_after : Next → ℕ → List Bool → List Bool
marked_after next.Nothing seat marks = marks
marked_after next.Ended seat marks = marks
marked_after next.Sent seat marks = slice_set marks seat true
marked_after next.Full seat marks = marks
