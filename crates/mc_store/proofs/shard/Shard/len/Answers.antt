use Rattle.std.proofs.Common.{sym, ◌∙◌}
use Rattle.mc_store.specs.Shard.{IsShard}
use Rattle.mc_store.proofs.Lists.{len-Shows}
use Rattle.mc_store.proofs.shard.Shard.len.Goals as goal

pub returns : goal.returns
unfolding IsShard
returns c = λ state h. c.len.ensures ∙ sym (len-Shows _ state.items h.order)
