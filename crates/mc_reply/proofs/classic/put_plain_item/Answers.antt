-- The line, its end, the value and the end of its block are the text of the item, in one room or in two.
use Rattle.std.proofs.Common.{◌++◌, codes, ap, sym, ◌∙◌, take, false}
use Rattle.mc_reply.specs.internal.SlotTexts.{plain_item}
use Rattle.mc_reply.proofs.Texts.{item-line_block, writes_same}
use Rattle.mc_reply.proofs.classic.put_plain_item.Goals as goal

pub returns : goal.returns
returns g c =
    let front = take c.place_line-end.result c.place_line-end.new.room in
    let line = take c.place-end.result c.place-end.new.room in
    let item = item-line_block false c.args.key.now c.args.flags 0 c.len-2.result c.args.value.now front line
    c.len-2.ensures.value c.place_line-end.ensures.text c.place-end.ensures.text in
    writes_same _ _ c.put_block.result
    (item ∙ ap (λ xs. xs ++ (c.args.value.now ++ codes "\r\n")) (sym c.split_at-2.ensures.front)) c.put_block.ensures

pub returns-then-len-le-SHORT_VALUE : goal.returns-then-len-le-SHORT_VALUE
returns-then-len-le-SHORT_VALUE g c =
    writes_same _ _ c.write_all.result
    (ap (λ value. plain_item c.args.key.now c.args.flags value) (sym c.bytes.ensures.value)
    ∙ sym c.place_item-end.ensures.text ∙ sym c.split_at.ensures.front) c.write_all.ensures
