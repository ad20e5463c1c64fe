use Rattle.mc_command.specs.declared.meta.ReturnFlag.TheVariants.{Unique}
use Rattle.mc_reply.specs.Text.{flag_text}
use Rattle.mc_wire.proofs.Sinks.{breaks}
use Rattle.mc_reply.proofs.Texts.{part_breaks, text_next, wrote_more}
use Rattle.mc_reply.proofs.meta.put_flags.Goals as goal

pub returns-in_err-put_flag : goal.returns-in_err-put_flag
returns-in_err-put_flag g c =
    let text = flag_text c.args.flags.now c.args.key.now c.args.answer.now in
    let next = text_next text c.args.flags.now.returned c.flags-flag-items.result.now c.loop-flag.flag-index Unique
    c.flags-flag-items.ensures.value c.loop-flag-test.true c.loop-flag.invariant in
    breaks _ c.from_residual.result _ _ c.from_residual.ensures.0 (part_breaks _ _ next c.in_err-put_flag.ensures)

pub loop-flag-preserved : goal.loop-flag-preserved
loop-flag-preserved g c =
    let text = flag_text c.args.flags.now c.args.key.now c.args.answer.now in
    let next = text_next text c.args.flags.now.returned c.flags-flag-items.result.now c.loop-flag.flag-index Unique
    c.flags-flag-items.ensures.value c.loop-flag-test.true c.loop-flag.invariant in
    wrote_more _ _ next c.in_ok-put_flag.ensures
