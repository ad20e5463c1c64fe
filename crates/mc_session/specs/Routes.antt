-- The channels of a seat as a clerk's record knows them.
use Rattle.std.specs.Prelude.{ℕ, ◌≡◌, ◌<◌, List, length, map, Some}
use Rattle.std.specs.List.{slice_get}
use Rattle.mc_ring.specs.declared.request.Request.TheVariants as request
use Rattle.mc_ring.specs.Ends.{Ends, received_on, sent_on}
use Rattle.mc_ring.specs.Channel.{Near}
use Rattle.mc_ring.specs.Reply.{Shown}
use Rattle.mc_ring.specs.Route.{Route}
use Rattle.mc_split.specs.declared.plan.Piece.{Piece}
use Rattle.mc_model.specs.Grows.{Lengthens}

-- The channels of the seat have these routes, by their shards, in a history of as many shards.
pub record AreOnRoutes (route : ℕ → Route) (ends : Ends Near) : Type 0 where
  pub each : (shard : ℕ) (end : Near) → slice_get ends.channels shard ≡ Some end → end.past.channel.route ≡ route shard
  pub shards : (shard : ℕ) → (route shard).name.sizes.shards ≡ length ends.channels

-- On each channel all work was sent and each piece has its reply; these are answers of the record.
pub record IsUpToDate (work : ℕ → List Piece) (answers : ℕ → List Shown) (ends : Ends Near) : Type 0 where
  pub settled : (shard : ℕ) → shard < length ends.channels → length (received_on ends shard)
      ≡ length (sent_on ends shard)
  pub work_is : (shard : ℕ) → shard < length ends.channels → map request.Piece (work shard) ≡ sent_on ends shard
  pub came : (shard : ℕ) → shard < length ends.channels → Lengthens (received_on ends shard) (answers shard)
