-- One thread more is one step more.
use Rattle.std.proofs.Common.{◌∙◌, ap, subst}
use Rattle.crossbeam_utils.specs.Padded.{padded_value}
use Rattle.mc_telemetry.specs.Counts.{AddsThread, no_totals}
use Rattle.mc_telemetry.proofs.Summing.{folds_shared}
use Rattle.mc_telemetry.proofs.counts.Counts.totals.Goals as goal

pub loop-thread-preserved : goal.loop-thread-preserved
loop-thread-preserved g c =
    folds_shared (AddsThread g.C.Count.has_told) no_totals c.deref-thread-items.result.now c.loop-thread.thread-index
    c.loop-thread.totals c.thread-item.result c.add.new.self c.loop-thread-test.true c.thread-item.is
    c.loop-thread.invariant
    (subst (λ thread. AddsThread g.C.Count.has_told c.loop-thread.totals thread c.add.new.self)
    (c.deref-in-loop-thread.ensures ∙ ap padded_value c.deref.ensures) c.add.ensures)
