use Rattle.mc_store.specs.Shard.{IsShard, held_of}
use Rattle.mc_store.proofs.Changes.{flush_all}
use Rattle.mc_store.proofs.shard.Shard.remove_all.Goals as goal

pub returns : goal.returns
unfolding IsShard
returns c = λ state h. rw (c.clear.ensures, c.clear_turns.ensures) (flush_all (held_of c.args.self.now) state h)
