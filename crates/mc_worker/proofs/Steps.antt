-- What a step of a shard says of what the shard holds.
use Rattle.std.proofs.Common.{ℕ}
use Rattle.mc_item.specs.declared.op.Op.{Op}
use Rattle.mc_item.specs.declared.answer.Answer.{Answer}
use Rattle.mc_store.specs.State.{State}
use Rattle.mc_store.specs.Step.{IsStep}
use Rattle.mc_store.specs.Shard.{IsShard, Keeps, Steps, held_of}
use Rattle.mc_store.specs.declared.shard.Shard.{Shard}

-- From whatever state a shard holds, its step is one that the protocol allows, and it holds the state after that.
pub steps_keep : (old new : Shard) (op : Op) (moment : ℕ) (answer : Answer) → Steps old op moment answer new
    → (state : State) → Keeps (held_of old) state → (after : State) × IsStep state op moment answer after
    × Keeps (held_of new) after
unfolding IsShard
steps_keep old new op moment answer steps state kept = let done = steps state kept in (done.0, done.1, done.2)

-- An empty shard holds what shows the empty state.
pub shard_keeps : (shard : Shard) (state : State) → IsShard shard state → Keeps (held_of shard) state
unfolding IsShard
shard_keeps shard state is = is
