-- The actors of a history that was opened.
use Rattle.std.specs.Prelude.{ℕ, ◌≡◌, List, [], Some, length}
use Rattle.std.specs.List.{slice_get}
use Rattle.mc_ring.specs.Route.{Name}
use Rattle.mc_sizes.specs.declared.sizes.Sizes.{Sizes}
use Rattle.mc_history.specs.declared.knowledge.Role.{Role}
use Rattle.mc_history.specs.declared.knowledge.Role.TheVariants.{Seat as of_seat, Shard as of_shard}
use Rattle.mc_history.specs.Tokens.{Acting}

-- These are so many actors of one history, each with the role of its place. Each has done and seen nothing.
pub record ActInOrder (role : ℕ → Role) (name : Name) (count : ℕ) (actors : List Acting) : Type 0 where
  pub counted : length actors ≡ count
  pub each : (i : ℕ) (actor : Acting) → slice_get actors i ≡ Some actor → actor
      ≡ record { name = name; role = role i; events = [] }

-- Nothing has happened in the history of a server of these sizes. These are its shards' recorders, its seats' clerks,
-- and a witness.
pub record IsOpening (sizes : Sizes) (recorders clerks : List Acting) (witness : Acting) : Type 0 where
  pub sizes_are : witness.name.sizes ≡ sizes
  pub recorders_are : ActInOrder of_shard witness.name sizes.shards recorders
  pub clerks_are : ActInOrder of_seat witness.name sizes.seats clerks
