-- The ranges and defaults of a server's sizes.
use Rattle.std.specs.Prelude.{◌≡◌, ◌^◌, ◌*◌}
use Rattle.mc_sizes.specs.declared.TheConstants.{DEFAULT_BUDGET, DEFAULT_RING, DEFAULT_SEATS, DEFAULT_SHARDS}
use Rattle.mc_sizes.specs.declared.TheConstants.{DEFAULT_WINDOW, MAX_BUDGET, MAX_RING, MAX_SEATS, MAX_SHARDS}
use Rattle.mc_sizes.specs.declared.TheConstants.{MAX_WINDOW, MIN_BUDGET, MIN}

-- The values of the code's constants. Budgets are in bytes.
pub record LimitsAre : Type 0 where
  pub least : MIN ≡ 1
  pub greatest_seats : MAX_SEATS ≡ 65536
  pub default_seats : DEFAULT_SEATS ≡ 1024
  pub greatest_shards : MAX_SHARDS ≡ 64
  pub default_shards : DEFAULT_SHARDS ≡ 2
  pub least_budget : MIN_BUDGET ≡ 1024
  pub greatest_budget : MAX_BUDGET ≡ 2 ^ 36
  pub default_budget : DEFAULT_BUDGET ≡ 16 * 2 ^ 20
  pub greatest_ring : MAX_RING ≡ 1024
  pub default_ring : DEFAULT_RING ≡ 20
  pub greatest_window : MAX_WINDOW ≡ 4096
  pub default_window : DEFAULT_WINDOW ≡ 256
