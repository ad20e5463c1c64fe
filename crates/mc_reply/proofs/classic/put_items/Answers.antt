use Rattle.std.proofs.Common.{◌∙◌}
use Rattle.std.proofs.lemmas.List.{at_drop_all}
use Rattle.mc_wire.specs.Words.{words_left}
use Rattle.mc_wire.proofs.Sinks.{breaks}
use Rattle.mc_reply.specs.internal.SlotTexts.{items_text}
use Rattle.mc_reply.proofs.Texts.{wrote_more, wrote_all, part_breaks, item_next, items-no_slots}
use Rattle.mc_reply.proofs.classic.put_items.Goals as goal

pub loop-slot-preserved : goal.loop-slot-preserved
loop-slot-preserved g c =
    let next = item_next c.args.with_unique (words_left c.loop-slot.keys) (words_left c.next.new.self) c.in-Some.key.now
    c.args.slots.now c.loop-slot.slot-index c.slot-item.result c.in-Some.ensures.steps c.loop-slot-test.true
    c.slot-item.is c.loop-slot.invariant.wrote in
    record {
      keys = (rw c.in-Some.ensures.steps at c.loop-slot.invariant.keys).1;
      wrote = wrote_more _ _ next c.in_ok-put_slot.ensures;
    }

pub returns-in_err-put_slot : goal.returns-in_err-put_slot
returns-in_err-put_slot g c =
    let next = item_next c.args.with_unique (words_left c.loop-slot.keys) (words_left c.next.new.self) c.in-Some.key.now
    c.args.slots.now c.loop-slot.slot-index c.slot-item.result c.in-Some.ensures.steps c.loop-slot-test.true
    c.slot-item.is c.loop-slot.invariant.wrote in
    breaks _ c.from_residual.result _ _ c.from_residual.ensures.0 (part_breaks _ _ next c.in_err-put_slot.ensures)

pub returns : goal.returns
returns g c =
    let keys = words_left c.loop-slot.keys in
    wrote_all (rw (at_drop_all (λ xs. items_text c.args.with_unique keys xs) c.args.slots.now c.loop-slot.slot-index
    c.loop-slot-test.false ∙ items-no_slots c.args.with_unique keys) at c.loop-slot.invariant.wrote)
