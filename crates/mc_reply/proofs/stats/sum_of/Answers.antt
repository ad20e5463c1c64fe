use Rattle.std.proofs.Common.{refl}
use Rattle.mc_reply.specs.internal.SlotTexts.{slot_stat}
use Rattle.mc_reply.proofs.Texts.{sum_next}
use Rattle.mc_reply.proofs.stats.sum_of.Goals as goal

pub loop-slot-preserved : goal.loop-slot-preserved
loop-slot-preserved c =
    sum_next (slot_stat c.args.stat) c.args.slots.now c.loop-slot.slot-index c.slot-item.result c.loop-slot.sum
    c.number_in-number.result _ c.loop-slot-test.true c.slot-item.is c.loop-slot.invariant
    c.number_in-number.ensures refl
