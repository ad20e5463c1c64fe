-- One shard more, with what it shows.
use Rattle.std.proofs.Common.{◌∙◌, ap, subst}
use Rattle.std.proofs.lemmas.List.{take_all}
use Rattle.crossbeam_utils.specs.Padded.{padded_value}
use Rattle.mc_telemetry.specs.Counts.{AreShown, EachIsShown, shared_values}
use Rattle.mc_telemetry.proofs.Summing.{shown_next}
use Rattle.mc_telemetry.proofs.counts.totals_of_each.Goals as goal

pub loop-shard-preserved : goal.loop-shard-preserved
loop-shard-preserved g c =
    let shown : AreShown g.C.Count.has_told c.deref-in-loop-shard.result.now c.totals.result =
    record { is_told = c.totals.ensures.told; summed = c.totals.ensures.summed } in
    shown_next g.C.Count.has_told c.args.shards.now c.loop-shard.shard-index c.shard-item.result
    c.loop-shard.totals.items c.totals.result c.push.new.self.items c.loop-shard-test.true c.shard-item.is
    c.in_ok-push.ensures.items c.loop-shard.invariant
    (subst (λ shard. AreShown g.C.Count.has_told shard c.totals.result)
    (c.deref-in-loop-shard.ensures ∙ ap padded_value c.deref.ensures) shown)

pub returns : goal.returns
returns g c =
    subst (λ all. EachIsShown g.C.Count.has_told (shared_values all) c.loop-shard.totals.items)
    (take_all c.loop-shard.shard-index c.args.shards.now c.loop-shard-test.false) c.loop-shard.invariant
