use Rattle.std.proofs.Common.{sym}
use Rattle.mc_store.specs.Shard.{IsShard}
use Rattle.mc_store.proofs.shard.Shard.op_stats.Goals as goal

pub returns : goal.returns
unfolding IsShard
returns c = λ state h. sym h.op_stats
