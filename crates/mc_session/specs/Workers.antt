-- Workers before their threads start.
use Rattle.std.specs.Prelude.{ℕ, ◌≡◌, ◌<◌, List, []}
use Rattle.std.specs.List.{AllByRecursion}
use Rattle.mc_sizes.specs.declared.sizes.Sizes.{Sizes}
use Rattle.mc_store.specs.State.{State}
use Rattle.mc_model.specs.Log.{Entry}
use Rattle.mc_model.specs.Sized.{empty_shard}
use Rattle.mc_worker.specs.WorkerState.{WorkerState, HasRun}
use Rattle.mc_worker.specs.Scribe.{AreOnRoutes}
use Rattle.mc_ring.specs.Channel.{Far}
use Rattle.mc_ring.specs.Ends.{Ends}
use Rattle.mc_ring.specs.Made.{IsUnused}
use Rattle.mc_ring.specs.Route.{Route}

-- The ends are those of a shard whose number is below shards, and nothing has passed on them.
abbrev pub AreFresh : ℕ → Ends Far → Type 0
AreFresh shards ends = (ends.number < shards) × AllByRecursion IsUnused ends.channels

-- The worker has run nothing, over an empty shard.
abbrev pub IsFresh : Sizes → WorkerState → Type 0
IsFresh sizes worker_state = HasRun (empty_shard sizes worker_state.ends.number) worker_state []

-- a worker's ends
abbrev pub ends_of : WorkerState → Ends Far
ends_of worker_state = worker_state.ends

-- A record with these routes, this beginning and this log is one for the shard of these ends: nothing is recorded, over
-- an empty shard.
pub record IsRecordOf (sizes : Sizes) (ends : Ends Far) (route : ℕ → Route) (begin : State) (log : List Entry) : Type 0
  where
    pub routes : AreOnRoutes route ends
    pub begin_is : begin ≡ empty_shard sizes ends.number
    pub none : log ≡ []
