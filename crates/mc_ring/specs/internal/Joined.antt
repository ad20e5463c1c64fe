-- How the ends of the shards grow by the channels of one seat more.
use Rattle.std.specs.Prelude.{◌≡◌, ℕ, List, [], ◌∷◌, ◌++◌, length, slice_get, Some}
use Rattle.std.specs.List.{AllByRecursion}
use Rattle.mc_ring.specs.Channel.{Far, Near}
use Rattle.mc_ring.specs.Ends.{Ends}
use Rattle.mc_ring.specs.Made.{IsUnused}
use Rattle.mc_ring.specs.Route.{Name}

-- A shard has one channel more, which is new and whose other end is this one, of the seat of this number.
pub record Joined (name : Name) (number : ℕ) (old new : Ends Far) (near : Near) : Type 0 where
  pub far : Far
  pub routed : near.past.channel.route ≡ record { seat = number; shard = old.number; name = name }
  pub grown : new ≡ record old { channels = old.channels ++ far ∷ [] }
  pub channel : far.past.channel ≡ near.past.channel
  pub unused : IsUnused far

-- Each shard has one channel more, and the other ends of these channels are the row.
pub record Joins (name : Name) (number capacity : ℕ) (old new : List (Ends Far)) (row : List Near) : Type 0 where
  pub count : length new ≡ length old
  pub row_count : length row ≡ length old
  pub unused : AllByRecursion IsUnused row
  pub holds : AllByRecursion (λ near. near.past.channel.capacity ≡ capacity) row
  pub each : (s : ℕ) (shard shard' : Ends Far) (near : Near) → slice_get old s ≡ Some shard → slice_get new s
      ≡ Some shard' → slice_get row s ≡ Some near → Joined name number shard shard' near
