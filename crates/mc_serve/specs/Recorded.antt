-- The clerk of a slot and the recorder of a shard, for their channels.
use Rattle.std.specs.Prelude.{ℕ, ◌≡◌}
use Rattle.mc_sizes.specs.declared.sizes.Sizes.{Sizes}
use Rattle.mc_ring.specs.Channel.{Far, Near}
use Rattle.mc_ring.specs.Ends.{Ends}
use Rattle.mc_ring.specs.Route.{Route}
use Rattle.mc_model.specs.Sized.{empty_shard}
use Rattle.mc_history.specs.Roles.{seat_of}
use Rattle.mc_history.specs.Tokens.{Acting}
use Rattle.mc_record.specs.Clerk.{answers_at, work_at}
use Rattle.mc_record.specs.Recorder.{log_in, shard_of}
use Rattle.mc_session.specs.Routes.{AreOnRoutes, IsUpToDate}
use Rattle.mc_session.specs.Workers.{IsRecordOf}

-- the route of the channel to a shard, as a clerk knows it
abbrev pub route_from : Acting → ℕ → Route
route_from clerk shard = record { seat = seat_of clerk.role; shard = shard; name = clerk.name }

-- The clerk is that of the slot with these ends, in a server of these sizes: it has recorded all that was sent and
-- received on their channels.
pub record IsClerkOf (sizes : Sizes) (ends : Ends Near) (clerk : Acting) : Type 0 where
  pub sizes_are : clerk.name.sizes ≡ sizes
  pub routes : AreOnRoutes (route_from clerk) ends
  pub past : IsUpToDate (work_at clerk) (answers_at clerk) ends

-- The recorder is that of the shard with these ends. It has recorded nothing yet, and the shard is empty.
abbrev pub IsRecorderOf : Sizes → Ends Far → Acting → Type 0
IsRecorderOf sizes ends recorder =
    IsRecordOf sizes ends (λ seat. record { seat = seat; shard = shard_of recorder.role; name = recorder.name })
    (empty_shard recorder.name.sizes (shard_of recorder.role)) (log_in recorder)
