use Rattle.std.proofs.Common.{[], refl, sym}
use Rattle.mc_item.specs.declared.stat.Stat.TheVariants.{CmdGet}
use Rattle.mc_wire.proofs.Sinks.{breaks, took-nil}
use Rattle.mc_reply.specs.internal.SlotTexts.{sum_line, sums_text}
use Rattle.mc_reply.proofs.Texts.{part_breaks, text_last, text_next, wrote_all, wrote_more}
use Rattle.mc_reply.proofs.stats.put_sums.Goals as goal

pub loop-stat-init : goal.loop-stat-init
unfolding sums_text
loop-stat-init g c = record { front = []; sight = sym (took-nil _); parts = refl }

pub loop-stat-preserved : goal.loop-stat-preserved
loop-stat-preserved g c =
    let next = text_next (sum_line c.args.slots.now) c.args.stats.now c.args.stats.now c.loop-stat.stat-index CmdGet
    refl c.loop-stat-test.true c.loop-stat.invariant in
    wrote_more _ _ next (rw (c.name.ensures, c.sum_of.ensures) at c.in_ok-put_number.ensures)

pub returns-in_err-put_number : goal.returns-in_err-put_number
returns-in_err-put_number g c =
    let next = text_next (sum_line c.args.slots.now) c.args.stats.now c.args.stats.now c.loop-stat.stat-index CmdGet
    refl c.loop-stat-test.true c.loop-stat.invariant in
    breaks _ c.from_residual.result _ _ c.from_residual.ensures.0
    (part_breaks _ _ next (rw (c.name.ensures, c.sum_of.ensures) at c.in_err-put_number.ensures))

pub returns : goal.returns
returns g c =
    wrote_all (text_last (sum_line c.args.slots.now) c.args.stats.now c.args.stats.now c.loop-stat.stat-index refl
    c.loop-stat-test.false c.loop-stat.invariant)
