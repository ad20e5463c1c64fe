-- All lines were written but those of the numbers that are left.
use Rattle.std.proofs.Common.{drop}
use Rattle.std.specs.List.{flat_map}
use Rattle.mc_reply.specs.internal.SlotTexts.{sum_line, sums_text}
use Rattle.mc_reply.proofs.Texts.{WroteBut}
use Rattle.mc_reply.proofs.stats.put_sums.Given as goal

abbrev pub invariant-loop-stat : goal.invariant-loop-stat
invariant-loop-stat g l =
    WroteBut (sums_text l.slots l.stats) (flat_map (sum_line l.slots) (drop l.stat-index l.stats))
    (g.O.Sink.sight l.fn.out) (g.O.Sink.sight l.out)
