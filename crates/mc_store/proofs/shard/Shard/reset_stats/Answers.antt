use Rattle.mc_item.specs.Kind.{key_of}
use Rattle.mc_store.specs.Shard.{IsShard, held_of}
use Rattle.mc_store.proofs.Stats.{stats_reset}
use Rattle.mc_store.proofs.shard.Shard.reset_stats.Goals as goal

pub returns-clause-acts : goal.returns-clause-acts
unfolding IsShard key_of
returns-clause-acts c =
    λ state h. rw (c.reset_evicted.ensures, c.new-self.ensures) (stats_reset (held_of c.args.self.now) state h)
