use Rattle.mc_item.specs.Kind.{key_of}
use Rattle.mc_store.specs.Shard.{IsShard, held_of}
use Rattle.mc_store.proofs.Stats.{stats_there, stats_lack}
use Rattle.mc_store.proofs.shard.Shard.stats.Goals as goal

pub returns-in-Ok-clause-acts : goal.returns-in-Ok-clause-acts
unfolding IsShard key_of
returns-in-Ok-clause-acts c =
    λ state h. stats_there (held_of c.args.self.now) state c.in-Ok.stats h
    (rw (c.in-Ok.ensures, c.evicted.ensures, c.len.ensures, c.cost.ensures.cost, c.budget.ensures.budget))

pub returns-in-Err-clause-acts : goal.returns-in-Err-clause-acts
unfolding IsShard key_of
returns-in-Err-clause-acts c = λ state h. stats_lack (held_of c.args.self.now) state h
