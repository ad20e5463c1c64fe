use Rattle.std.proofs.Common.{Some}
use Rattle.mc_item.specs.declared.answer.Answer.TheVariants.{Stored}
use Rattle.mc_item.specs.Kind.{key_of}
use Rattle.mc_store.specs.State.{without_dead}
use Rattle.mc_store.specs.Shard.{IsShard, held_of}
use Rattle.mc_store.proofs.Stores.{classic_store, set_classic}
use Rattle.mc_store.proofs.shard.Shard.store_classic.Goals as goal

pub returns-in-Ok-clause-acts : goal.returns-in-Ok-clause-acts
unfolding IsShard key_of
returns-in-Ok-clause-acts c = λ state h.
    classic_store (without_dead state (Some c.args.asked.key)) c.args.asked Stored (held_of c.store.new.self)
    (c.in-Ok.ensures.does (λ _. Stored) state h)

pub returns-in-Err-clause-acts : goal.returns-in-Err-clause-acts
unfolding IsShard key_of
returns-in-Err-clause-acts c = λ state h.
    classic_store (without_dead state (Some c.args.asked.key)) c.args.asked c.in-Err.answer (held_of c.store.new.self)
    (c.in-Err.ensures.does (λ _. Stored) state h)

pub returns-then-is_unconditional-clause-acts : goal.returns-then-is_unconditional-clause-acts
unfolding IsShard key_of
returns-then-is_unconditional-clause-acts c = λ state h.
    set_classic (without_dead state (Some c.args.asked.key)) c.args.asked c.set.result (held_of c.set.new.self)
    c.if-is_unconditional.ensures (c.set.ensures.does state h)
