-- One worker more, over the first of the ends that are left and with the first of the scribes, until none is left.
use Rattle.std.proofs.Common.{◌∙◌, map, sym, arith}
use Rattle.std.specs.Vec.Iter.{into_iter_items}
use Rattle.mc_session.specs.Workers.{AreFresh, IsFresh, IsRecordOf, ends_of}
use Rattle.mc_session.proofs.Fresh.{fresh_by_ends}
use Rattle.mc_session.proofs.Orders.{all_first, all_more, all_rest, order_all, order_more, zips_first, zips_rest}
use Rattle.mc_session.proofs.workers.make_recorded_workers.Goals as goal

pub loop-ends-init : goal.loop-ends-init
loop-ends-init g c =
    let scribes = c.into_iter-scribes.ensures.rest in
    let ends = c.into_iter-ends-iterator.ensures.into_iter_gives.0 in
    let none = c.in_ok-workers.ensures.items in
    record {
      left = rw ends c.requires.fresh;
      records = rw (scribes, ends) c.requires.records;
      order = rw none ends;
      fresh = rw none tt;
    }

pub start_recorded-requires : goal.start_recorded-requires
start_recorded-requires g c =
    let was = c.loop-ends.invariant in
    let step = c.in-Some.ensures.steps in
    let scribe = c.in-Some-next.ensures.cases in
    let here = all_first (AreFresh c.args.sizes.shards) _ c.in-Some.ends _ step.0 was.left in
    let suits = zips_first
    (λ ends scribe. g.S.Scribe.keeps scribe
    → IsRecordOf c.args.sizes ends (g.S.Scribe.route scribe) (g.S.Scribe.begin scribe) (g.S.Scribe.log scribe))
    _ _ _ _ c.in-Some.ends c.in-Some-next.scribe step.0 scribe.0 was.records in
    record {
      place = here.0;
      sizes = c.requires.sizes;
      unused = here.1;
      routes = λ keeps. (suits keeps).routes;
      begin = λ keeps. (suits keeps).begin_is;
      log = λ keeps. (suits keeps).none;
    }

pub loop-ends-preserved : goal.loop-ends-preserved
loop-ends-preserved g c =
    let step = c.in-Some.ensures.steps in
    let scribe = c.in-Some-next.ensures.cases in
    let made = c.in_ok-worker.ensures in
    let grown = c.in_ok-push.ensures.items in
    let was = c.loop-ends.invariant in
    record {
      left = all_rest (AreFresh c.args.sizes.shards) _ c.in-Some.ends _ step.0 was.left;
      records = zips_rest
          (λ ends scribe. g.S.Scribe.keeps scribe
          → IsRecordOf c.args.sizes ends (g.S.Scribe.route scribe) (g.S.Scribe.begin scribe) (g.S.Scribe.log scribe))
          _ _ _ _ c.in-Some.ends c.in-Some-next.scribe step.0 scribe.0 was.records;
      order =
          order_more ends_of c.loop-ends.workers.items _ c.in_ok-worker.worker c.in-Some.ends _ _ grown made.ends
          (rw step.0 at was.order);
      fresh = all_more (IsFresh c.args.sizes) c.loop-ends.workers.items _ c.in_ok-worker.worker grown was.fresh
          (fresh_by_ends c.args.sizes c.in_ok-worker.worker c.in-Some.ends made.ends made.begins);
    }

pub loop-ends-smaller : goal.loop-ends-smaller
loop-ends-smaller g c = omega (arith, c.in-Some.ensures.steps.1)

pub returns-clause-ends : goal.returns-clause-ends
returns-clause-ends g c =
    order_all (map ends_of c.loop-ends.workers.items) (into_iter_items c.loop-ends.ends-iterator) _
    (sym c.loop-ends.ends-iterator.rest.ok.0 ∙ c.in-None.ensures.steps.0) c.loop-ends.invariant.order

pub returns-clause-fresh : goal.returns-clause-fresh
returns-clause-fresh g c = c.loop-ends.invariant.fresh
