-- The totals of the threads so far are added.
use Rattle.std.proofs.Common.{take}
use Rattle.std.specs.List.{FoldsTo}
use Rattle.mc_telemetry.specs.Counts.{AddsThread, no_totals, shared_values}
use Rattle.mc_telemetry.proofs.counts.Counts.totals.Given as goal

abbrev pub invariant-loop-thread : goal.invariant-loop-thread
invariant-loop-thread g l =
    FoldsTo (AddsThread g.C.Count.has_told) no_totals (shared_values (take l.thread-index l.thread-items)) l.totals
