use Rattle.std.proofs.Common.{◌≡◌, ℕ, Bool, List, [], ◌∷◌, ◌++◌, ◌∙◌, codes, length, Option, ap, sym}
use Rattle.std.proofs.lemmas.Bool.{eqb-true}
use Rattle.mc_reply.specs.Text.{item_text}
use Rattle.mc_reply.specs.internal.SlotTexts.{slot_text}
use Rattle.mc_wire.specs.Words.{words_left}
use Rattle.mc_wire.proofs.Sinks.{breaks, breaks_first}
use Rattle.mc_reply.proofs.Texts.{part_breaks, values-parts, writes_rest, wrote_first, wrote_more, writes_same}
use Rattle.mc_item.specs.declared.answer.Answer.{Answer}
use Rattle.mc_reply.specs.internal.SlotTexts.{items_text}
use Rattle.mc_reply.proofs.Texts.{items-no_slots}
use Rattle.mc_reply.proofs.classic.put_values.Goals as goal

-- Where there are no slots no item is shown.
unshown : (with_unique : Bool) (keys : List (List ℕ)) (slots : List (Option Answer)) → length slots ≡ 0
    → items_text with_unique keys slots ≡ []
unshown with_unique keys [] none = items-no_slots with_unique keys
unshown with_unique keys (slot ∷ slots) none = absurd (cc)

-- The items of one slot are the item of the first key.
only : (with_unique : Bool) (keys : List (List ℕ)) (slots : List (Option Answer)) → length slots ≡ 0 → (text : List ℕ)
    → items_text with_unique keys slots ++ text ≡ text
only with_unique keys slots none text = ap (λ items. items ++ text) (unshown with_unique keys slots none)

pub returns-then-is_empty : goal.returns-then-is_empty
returns-then-is_empty g c =
    let parts = values-parts c.args.with_unique c.args.keys.now (words_left c.parts.result.1) c.parts.result.0.now
    c.args.slots.now c.in-Some.more.now c.in-Some.slot.now (codes "END\r\n") c.parts.ensures.parts
    c.in-Some.ensures.cases.0 in
    let first = slot_text (item_text c.args.with_unique c.parts.result.0.now) c.in-Some.slot.now in
    let none = only c.args.with_unique (words_left c.parts.result.1) c.in-Some.more.now
    (eqb-true _ 0 (sym c.is_empty.ensures ∙ c.if-is_empty.true)) (codes "END\r\n") in
    writes_same _ _ c.put_one.result (parts ∙ ap (λ rest. first ++ rest) none)
    (rw c.bytes.ensures.value at c.put_one.ensures)

pub returns-in_err-put_items : goal.returns-in_err-put_items
returns-in_err-put_items g c =
    let parts = values-parts c.args.with_unique c.args.keys.now (words_left c.parts.result.1) c.parts.result.0.now
    c.args.slots.now c.in-Some.more.now c.in-Some.slot.now (codes "END\r\n") c.parts.ensures.parts
    c.in-Some.ensures.cases.0 in
    breaks _ c.from_residual-in_err-put_items.result _ _ c.from_residual-in_err-put_items.ensures.0
    (part_breaks _ (codes "END\r\n") (wrote_first _ parts (rw c.bytes-2.ensures.value at c.in_ok-put_slot.ensures))
    c.in_err-put_items.ensures)

pub returns : goal.returns
returns g c =
    let parts = values-parts c.args.with_unique c.args.keys.now (words_left c.parts.result.1) c.parts.result.0.now
    c.args.slots.now c.in-Some.more.now c.in-Some.slot.now (codes "END\r\n") c.parts.ensures.parts
    c.in-Some.ensures.cases.0 in
    writes_rest _ c.write_all-2.result
    (wrote_more _ (codes "END\r\n") (wrote_first _ parts (rw c.bytes-2.ensures.value at c.in_ok-put_slot.ensures))
    c.in_ok-put_items.ensures) c.write_all-2.ensures

pub returns-in_default : goal.returns-in_default
returns-in_default g c =
    writes_same _ _ c.write_all.result
    (ap (λ xs. xs ++ codes "END\r\n")
    (unshown c.args.with_unique c.args.keys.now c.args.slots.now c.in_default.ensures.cases)) c.write_all.ensures

pub returns-in_err-put_slot : goal.returns-in_err-put_slot
returns-in_err-put_slot g c =
    let parts = values-parts c.args.with_unique c.args.keys.now (words_left c.parts.result.1) c.parts.result.0.now
    c.args.slots.now c.in-Some.more.now c.in-Some.slot.now (codes "END\r\n") c.parts.ensures.parts
    c.in-Some.ensures.cases.0 in
    breaks _ c.from_residual.result _ _ c.from_residual.ensures.0
    (rw parts (breaks_first _ _ _ _ (rw c.bytes-2.ensures.value at c.in_err-put_slot.ensures)))
