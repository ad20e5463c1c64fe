use Rattle.std.specs.Prelude.{◌==◌}
use Rattle.std.proofs.Common.{◌≡◌, refl}
use Rattle.mc_item.specs.Kind.{key_of}
use Rattle.mc_item.specs.OpStats.{counting_of}
use Rattle.mc_store.specs.State.{arrived, settle}
use Rattle.mc_store.specs.Step.{IsStep, makes, noted_in}
use Rattle.mc_store.specs.Shard.{IsShard, held_of}
use Rattle.mc_store.proofs.Stats.{noted_keeps, settled_index}
use Rattle.mc_store.proofs.shard.Shard.run_in_place.Goals as goal

pub returns-clause-step : goal.returns-clause-step
unfolding IsShard IsStep
returns-clause-step c = λ state h.
    let now = arrived state c.args.moment in
    let there = c.arrive.ensures state h in
    let settled = settle state (key_of c.args.op.now) c.args.moment in
    let done = c.answer-answer.ensures.acts now there in
    let first : (settled.index == 0) ≡ (c.arrive.new.self.index == 0) =
    rw (settled_index now (key_of c.args.op.now), there.index) refl in
    let counting : c.of-counting.result ≡ counting_of (settled.index == 0) (makes settled c.args.op.now) c.args.op.now =
    rw (first, ← c.makes.ensures now there) c.of-counting.ensures in
    let after = noted_in settled done.0 c.args.op.now c.answer-answer.result in (
      after,
      (done.0, done.1, refl),
      rw (c.count_in.ensures, c.of.ensures)
          (noted_keeps (held_of c.answer-answer.new.self) settled done.0 c.args.op.now c.answer-answer.result
          c.of-counting.result counting done.2),
    )
