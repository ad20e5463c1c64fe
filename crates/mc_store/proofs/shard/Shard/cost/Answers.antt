use Rattle.std.proofs.Common.{sym, ◌∙◌}
use Rattle.mc_store.specs.Shard.{IsShard}
use Rattle.mc_store.proofs.Costs.{costs_shown}
use Rattle.mc_store.proofs.shard.Shard.cost.Goals as goal

pub returns-clause-cost : goal.returns-clause-cost
unfolding IsShard
returns-clause-cost c = λ state h. c.cost.ensures.cost ∙ sym (costs_shown _ state.items h.order)

pub returns-clause-room : goal.returns-clause-room
unfolding IsShard
returns-clause-room c = λ state h. rw h.budget c.cost.ensures.room
