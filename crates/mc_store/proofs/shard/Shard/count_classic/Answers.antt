use Rattle.std.proofs.Common.{Some}
use Rattle.mc_item.specs.declared.answer.Answer.TheVariants.{Number}
use Rattle.mc_item.specs.Kind.{key_of}
use Rattle.mc_store.specs.State.{without_dead}
use Rattle.mc_store.specs.Shard.{IsShard, held_of}
use Rattle.mc_store.proofs.Counts.{classic_count}
use Rattle.mc_store.proofs.shard.Shard.count_classic.Goals as goal

pub returns-in-Ok-clause-acts : goal.returns-in-Ok-clause-acts
unfolding IsShard key_of
returns-in-Ok-clause-acts c =
    λ state h. classic_count (without_dead state (Some c.args.key)) c.args.key c.args.direction c.args.amount
    (Number c.in-Ok.done.number) (held_of c.count.new.self) (c.in-Ok.ensures.does (λ done. Number done.number) state h)

pub returns-in-Err-clause-acts : goal.returns-in-Err-clause-acts
unfolding IsShard key_of
returns-in-Err-clause-acts c =
    λ state h. classic_count (without_dead state (Some c.args.key)) c.args.key c.args.direction c.args.amount
    c.in-Err.answer (held_of c.count.new.self) (c.in-Err.ensures.does (λ done. Number done.number) state h)
