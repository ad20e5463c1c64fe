use Rattle.std.proofs.Common.{refl}
use Rattle.std.specs.Prelude.{decimal}
use Rattle.mc_wire.proofs.Sinks.{breaks}
use Rattle.mc_reply.specs.Text.{stat_text}
use Rattle.mc_reply.proofs.Texts.{part_breaks, text_next, wrote_more}
use Rattle.mc_reply.proofs.stats.put_numbers.Goals as goal

pub loop-line-preserved : goal.loop-line-preserved
loop-line-preserved g c =
    let next = text_next (λ line. stat_text line.0.now (decimal line.1)) c.args.lines.now c.args.lines.now
    c.loop-line.line-index _ refl c.loop-line-test.true c.loop-line.invariant in
    wrote_more _ _ next c.in_ok-put_number.ensures

pub returns-in_err-put_number : goal.returns-in_err-put_number
returns-in_err-put_number g c =
    let next = text_next (λ line. stat_text line.0.now (decimal line.1)) c.args.lines.now c.args.lines.now
    c.loop-line.line-index _ refl c.loop-line-test.true c.loop-line.invariant in
    breaks _ c.from_residual.result _ _ c.from_residual.ensures.0 (part_breaks _ _ next c.in_err-put_number.ensures)
