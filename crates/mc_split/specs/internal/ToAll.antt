-- What every shard is asked, as the piece that each of them gets.
use Rattle.mc_item.specs.declared.op.Op.{Op}
use Rattle.mc_item.specs.declared.op.Op.TheVariants as op
use Rattle.mc_split.specs.declared.stats.ToAll.{ToAll}
use Rattle.mc_split.specs.declared.stats.ToAll.TheVariants as all

abbrev pub op_of : ToAll → Op
op_of (all.Flush delay) = op.Flush delay
op_of all.Stats = op.Stats
op_of all.ResetStats = op.ResetStats
