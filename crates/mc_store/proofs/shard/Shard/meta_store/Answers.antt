use Rattle.std.proofs.Common.{Some}
use Rattle.mc_item.specs.declared.answer.Answer.TheVariants.{MetaDone}
use Rattle.mc_item.specs.Kind.{key_of}
use Rattle.mc_store.specs.State.{without_dead}
use Rattle.mc_store.specs.Shard.{IsShard, held_of}
use Rattle.mc_store.proofs.Stores.{meta_store}
use Rattle.mc_store.proofs.shard.Shard.meta_store.Goals as goal

pub returns-in-Ok-clause-acts : goal.returns-in-Ok-clause-acts
unfolding IsShard key_of
returns-in-Ok-clause-acts c = λ state h.
    meta_store (without_dead state (Some c.args.asked.key)) c.args.asked (MetaDone c.in-Ok.done)
    (held_of c.store.new.self)
    (c.in-Ok.ensures.does (λ done. MetaDone done) state h)

pub returns-in-Err-clause-acts : goal.returns-in-Err-clause-acts
unfolding IsShard key_of
returns-in-Err-clause-acts c = λ state h.
    meta_store (without_dead state (Some c.args.asked.key)) c.args.asked c.in-Err.answer (held_of c.store.new.self)
    (c.in-Err.ensures.does (λ done. MetaDone done) state h)
