use Rattle.std.proofs.Common.{refl}
use Rattle.mc_store.specs.Shard.{IsShard, held_of}
use Rattle.mc_store.proofs.Shards.{meets, misses}
use Rattle.mc_store.proofs.WithoutValue.{found, none_found}
use Rattle.mc_store.proofs.shard.Shard.fills.Goals as goal

pub returns-then-not-asked : goal.returns-then-not-asked
returns-then-not-asked c = λ state h. rw c.if-not-asked.true refl

pub returns-in-Some : goal.returns-in-Some
unfolding IsShard
returns-in-Some c = λ state h.
    let there = meets (held_of c.args.self.now) state c.args.key.now _ h (found _ _ c.in-Some.ensures).is in
    rw (c.if-not-asked.false, there.settled, there.found) refl

pub returns-in-None : goal.returns-in-None
unfolding IsShard
returns-in-None c = λ state h.
    rw (
      c.if-not-asked.false,
      (misses (held_of c.args.self.now) state c.args.key.now h
          (none_found _ c.in-None.ensures)).gone,
    ) refl
