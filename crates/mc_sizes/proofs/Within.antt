-- What sizes within their limits are good for.
use Rattle.std.proofs.Common.{arith}
use Rattle.mc_sizes.specs.Sizes.{AreWithin, MayServe, SuitLines, SuitShards}
use Rattle.mc_sizes.specs.declared.sizes.Sizes.{Sizes}

-- Shards of sizes that a server may have.
pub suits_shards : (sizes : Sizes) → AreWithin sizes → SuitShards sizes
suits_shards sizes within = record { bytes = within.bytes; value = within.value.1 }

-- Lines by sizes that a server may have.
pub suits_lines : (sizes : Sizes) → AreWithin sizes → SuitLines sizes
suits_lines sizes within =
    let shard = within.shards.0 in
    let command = within.window.0 in
    record {
      shards = omega (arith, shard);
      value = within.value.1;
      line = within.line.1;
      window = omega (arith, command);
    }

-- A server of sizes that it may have.
pub may_serve : (sizes : Sizes) → AreWithin sizes → MayServe sizes
may_serve sizes within = record {
  channels = record { seats = within.seats; shards = within.shards; ring = within.ring };
  shards = suits_shards sizes within;
  lines = suits_lines sizes within;
}
