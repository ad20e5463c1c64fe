-- One shard more is one step more.
use Rattle.std.proofs.Common.{◌∙◌, ap, subst}
use Rattle.crossbeam_utils.specs.Padded.{padded_value}
use Rattle.mc_telemetry.specs.Counts.{AddsShard}
use Rattle.mc_telemetry.proofs.Summing.{folds_shared}
use Rattle.mc_telemetry.proofs.shard_counts.ShardTotals.and_each.Goals as goal

pub loop-shard-preserved : goal.loop-shard-preserved
loop-shard-preserved g c =
    let next : AddsShard g.C.Count.has_told c.loop-shard.totals c.deref-in-loop-shard.result.now c.and-totals.result =
    record {
      totals = c.totals.result;
      are_shown = record { is_told = c.totals.ensures.told; summed = c.totals.ensures.summed };
      sum = c.and-totals.ensures;
    } in
    folds_shared (AddsShard g.C.Count.has_told) c.args.self c.args.shards.now c.loop-shard.shard-index
    c.loop-shard.totals c.shard-item.result c.and-totals.result c.loop-shard-test.true c.shard-item.is
    c.loop-shard.invariant
    (subst (λ shard. AddsShard g.C.Count.has_told c.loop-shard.totals shard c.and-totals.result)
    (c.deref-in-loop-shard.ensures ∙ ap padded_value c.deref.ensures) next)
