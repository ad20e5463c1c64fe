use Rattle.std.proofs.Common.{◌≡◌, [], ◌∷◌, arith, sym, ◌∙◌, length-append}
use Rattle.std.proofs.lemmas.List.{map-id}
use Rattle.std.proofs.lemmas.Iterator.Adapters.{YieldsList-from_vec}
use Rattle.std.proofs.lemmas.Iterator.Consumers.{YieldsList-end}
use Rattle.mc_store.proofs.Runs.{ran_more, ran_through}
use Rattle.mc_store.proofs.shard.Shard.run_all.Goals as goal

pub loop-op-preserved : goal.loop-op-preserved
loop-op-preserved c =
    let long = length-append c.loop-op.yielded ((c.in-Some.op, c.in-Some.moment) ∷ []) in
    record {
      ran =
          rw c.in-Ok.ensures.items
          (ran_more c.args.self.now c.loop-op.self c.run-answer.new.self c.loop-op.yielded c.loop-op.answers.items
          (c.in-Some.op, c.in-Some.moment) c.run-answer.result c.loop-op.invariant.ran c.run-answer.ensures.step);
      long = omega (arith, c.in-Ok.ensures.len, c.loop-op.invariant.long);
      room = omega (arith, c.in-Ok.ensures.capacity, c.loop-op.invariant.room);
    }

pub returns-clause-ran : goal.returns-clause-ran
returns-clause-ran c =
    let made = c.into_iter-op-iterator.ensures.into_iter_gives in
    let all = YieldsList-end
    (YieldsList-from_vec {s = c.into_iter-op-iterator.result} c.args.asked.items made.0 (made.1 ∙ c.args.asked.ok.0))
    c.loop-op.yielded c.loop-op.op-iterator c.loop-op.yielded_by c.next.result c.next.new.self c.in-None.is
    c.next.ensures.steps in
    let whole : c.loop-op.yielded ≡ c.args.asked.items = sym (map-id c.loop-op.yielded) ∙ all.0 in
    rw (← whole) (ran_through c.args.self.now c.loop-op.self c.loop-op.yielded c.loop-op.answers.items
    c.loop-op.invariant.ran)
