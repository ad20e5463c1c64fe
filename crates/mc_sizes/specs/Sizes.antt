-- The sizes of a server: the parser's rules that they imply, and their ranges.
use Rattle.std.specs.Prelude.{ℕ, ◌<◌, ◌≤◌}
use Rattle.mc_wire.specs.declared.TheConstants.{MAX_LINE_LIMIT, MAX_VALUE_LIMIT, MIN_LINE_LIMIT, MIN_VALUE_LIMIT}
use Rattle.mc_command.specs.declared.rules.Rules.{Rules}
use Rattle.mc_sizes.specs.declared.TheConstants.{MAX_BUDGET, MAX_RING, MAX_SEATS, MAX_SHARDS, MAX_WINDOW, MIN_BUDGET}
use Rattle.mc_sizes.specs.declared.TheConstants.{MIN}
use Rattle.mc_sizes.specs.declared.sizes.Sizes.{Sizes}
use Rattle.mc_sizes.specs.declared.sizes.SizeError.{SizeError}
use Rattle.mc_sizes.specs.declared.sizes.SizeError.TheVariants.{Bytes, Line, Ring, Seats, Shards, Value, Window}

-- the parser's rules
abbrev pub rules_of : Sizes → Rules
rules_of sizes =
    record { profile = sizes.profile; value_limit = sizes.value; line_limit = sizes.line; shutdown = sizes.shutdown }

abbrev pub IsFrom : ℕ → ℕ → ℕ → Type 0
IsFrom least greatest n = (least ≤ n) × (n ≤ greatest)

-- The size that an error names is within its range.
abbrev pub IsWithin : Sizes → SizeError → Type 0
IsWithin sizes Seats = IsFrom MIN MAX_SEATS sizes.seats
IsWithin sizes Shards = IsFrom MIN MAX_SHARDS sizes.shards
IsWithin sizes Bytes = IsFrom MIN_BUDGET MAX_BUDGET sizes.bytes
IsWithin sizes Ring = IsFrom MIN MAX_RING sizes.ring
IsWithin sizes Value = IsFrom MIN_VALUE_LIMIT MAX_VALUE_LIMIT sizes.value
IsWithin sizes Line = IsFrom MIN_LINE_LIMIT MAX_LINE_LIMIT sizes.line
IsWithin sizes Window = IsFrom MIN MAX_WINDOW sizes.window

-- The size that an error names is the first one that isn't.
abbrev pub IsFirstOut : Sizes → SizeError → Type 0
IsFirstOut sizes Seats = ¬ IsWithin sizes Seats
IsFirstOut sizes Shards = IsWithin sizes Seats × ¬ IsWithin sizes Shards
IsFirstOut sizes Bytes = IsWithin sizes Seats × IsWithin sizes Shards × ¬ IsWithin sizes Bytes
IsFirstOut sizes Ring = IsWithin sizes Seats × IsWithin sizes Shards × IsWithin sizes Bytes × ¬ IsWithin sizes Ring
IsFirstOut sizes Value =
    IsWithin sizes Seats × IsWithin sizes Shards × IsWithin sizes Bytes × IsWithin sizes Ring × ¬ IsWithin sizes Value
IsFirstOut sizes Line =
    IsWithin sizes Seats × IsWithin sizes Shards × IsWithin sizes Bytes × IsWithin sizes Ring × IsWithin sizes Value
    × ¬ IsWithin sizes Line
IsFirstOut sizes Window =
    IsWithin sizes Seats × IsWithin sizes Shards × IsWithin sizes Bytes × IsWithin sizes Ring × IsWithin sizes Value
    × IsWithin sizes Line × ¬ IsWithin sizes Window

-- Each size is within its range.
pub record AreWithin (sizes : Sizes) : Type 0 where
  pub seats : IsWithin sizes Seats
  pub shards : IsWithin sizes Shards
  pub bytes : IsWithin sizes Bytes
  pub ring : IsWithin sizes Ring
  pub value : IsWithin sizes Value
  pub line : IsWithin sizes Line
  pub window : IsWithin sizes Window

-- The sizes allow channels between sizes.seats slots and sizes.shards shards, with rings of capacity
-- sizes.ring.
pub record SuitChannels (sizes : Sizes) : Type 0 where
  pub seats : IsWithin sizes Seats
  pub shards : IsWithin sizes Shards
  pub ring : IsWithin sizes Ring

-- The sizes allow shards with this budget and this value limit.
pub record SuitShards (sizes : Sizes) : Type 0 where
  pub bytes : IsWithin sizes Bytes
  pub value : sizes.value ≤ MAX_VALUE_LIMIT

-- The sizes allow lines over sizes.shards shards, with these limits of values and lines and this window.
pub record SuitLines (sizes : Sizes) : Type 0 where
  pub shards : 0 < sizes.shards
  pub value : sizes.value ≤ MAX_VALUE_LIMIT
  pub line : sizes.line ≤ MAX_LINE_LIMIT
  pub window : 0 < sizes.window

-- The sizes allow a server.
pub record MayServe (sizes : Sizes) : Type 0 where
  pub channels : SuitChannels sizes
  pub shards : SuitShards sizes
  pub lines : SuitLines sizes
