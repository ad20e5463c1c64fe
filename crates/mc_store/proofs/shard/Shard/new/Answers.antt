use Rattle.mc_store.specs.Shard.{IsShard}
use Rattle.mc_store.proofs.Changes.{new_keeps}
use Rattle.mc_store.proofs.shard.Shard.new.Goals as goal

pub returns : goal.returns
unfolding IsShard
returns c =
    rw (c.in_ok-items.ensures, c.new-2.ensures.items, c.new-4.ensures)
    (new_keeps c.args.index c.args.shards c.args.budget c.args.given c.args.limit c.requires.place)
