-- Each round calls a shard, where a reply of it is awaited.
use Rattle.std.proofs.Common.{length, refl, sym, ap, ◌∙◌, arith}
use Rattle.std.specs.List.{slice_get}
use Rattle.std.proofs.lemmas.Option.{slice_get_read}
use Rattle.mc_session.proofs.Calling.{all_below, below_called, below_idle}
use Rattle.mc_session.proofs.shard_link.ShardLink.call_shards.Goals as goal
use Rattle.mc_session.proofs.shard_link.ShardLink.call_shards.Goals.{then-index-gt0, else-index-gt0}

pub loop-shard-preserved : goal.loop-shard-preserved
loop-shard-preserved g c = elim c.if-index-gt0.branch [
  | then-index-gt0 w ↦ rw w.self-is (record {
    called = rw w.call.ensures (below_called c.loop-shard.shard _ _ c.loop-shard.invariant.called);
    uncalled = c.loop-shard.invariant.uncalled;
    ends = c.loop-shard.invariant.ends;
    clerk = c.loop-shard.invariant.clerk;
    under_way = c.loop-shard.invariant.under_way;
    blocked = c.loop-shard.invariant.blocked;
    places = c.loop-shard.invariant.places;
    last = c.loop-shard.invariant.last;
  })
  | else-index-gt0 w ↦ rw w.self-is (record {
    called =
        let ways = c.loop-shard.self.under_way.items in
        let bound = c.loop-shard.invariant.last in
        let end = c.loop-shard-test.true in
        let same = ap (λ v. length v.items) c.loop-shard.invariant.under_way in
        let got = slice_get_read ways (length ways) c.loop-shard.shard c.index.result.now refl
        (omega (arith, bound, end, same)) c.index.ensures in
        below_idle c.loop-shard.shard c.index.result.now _ _
        (ap (λ v. slice_get v.items c.loop-shard.shard) (sym c.loop-shard.invariant.under_way) ∙ got)
        w.if-index-gt0.false c.loop-shard.invariant.called;
    uncalled = c.loop-shard.invariant.uncalled;
    ends = c.loop-shard.invariant.ends;
    clerk = c.loop-shard.invariant.clerk;
    under_way = c.loop-shard.invariant.under_way;
    blocked = c.loop-shard.invariant.blocked;
    places = c.loop-shard.invariant.places;
    last = c.loop-shard.invariant.last;
  })
]

pub invariant_of-self-2-clause-routed : goal.invariant_of-self-2-clause-routed
invariant_of-self-2-clause-routed g c keeps =
    rw (c.loop-shard.invariant.ends, c.loop-shard.invariant.clerk) (c.args.self.now.routed keeps)

pub invariant_of-self-2-clause-all_called : goal.invariant_of-self-2-clause-all_called
invariant_of-self-2-clause-all_called g c off =
    let last = c.loop-shard.invariant.last in
    let over = c.loop-shard-test.false in
    let end = c.loop-shard.auto.shard-end in
    rw c.loop-shard.invariant.under_way
    (all_below c.loop-shard.shard _ _ (omega (arith, last, over, end)) c.loop-shard.invariant.called)
