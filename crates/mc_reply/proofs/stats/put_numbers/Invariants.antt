-- All lines were written but those that are left.
use Rattle.std.proofs.Common.{drop}
use Rattle.std.specs.Prelude.{decimal}
use Rattle.std.specs.List.{flat_map}
use Rattle.mc_reply.specs.Text.{stat_text}
use Rattle.mc_reply.proofs.Texts.{WroteBut}
use Rattle.mc_reply.proofs.stats.put_numbers.Given as goal

abbrev pub invariant-loop-line : goal.invariant-loop-line
invariant-loop-line g l =
    WroteBut (flat_map (λ line. stat_text line.0.now (decimal line.1)) l.lines)
    (flat_map (λ line. stat_text line.0.now (decimal line.1)) (drop l.line-index l.lines)) (g.O.Sink.sight l.fn.out)
    (g.O.Sink.sight l.out)
