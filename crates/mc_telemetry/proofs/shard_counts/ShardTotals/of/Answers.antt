-- What is published follows from what the shard returns of its state.
use Rattle.std.proofs.Common.{ap, ◌∙◌}
use Rattle.mc_telemetry.specs.Totals.{with_out_of_memory}
use Rattle.mc_telemetry.proofs.Summing.{same_totals}
use Rattle.mc_telemetry.proofs.shard_counts.ShardTotals.of.Goals as goal

pub returns : goal.returns
returns c = λ state is.
    c.with_out_of_memory.ensures
    ∙ ap with_out_of_memory (c.counted.ensures ∙ same_totals (c.len-items.ensures state is)
    (c.cost-bytes.ensures.cost state is) (c.evicted.ensures state is) (c.op_stats.ensures state is))
