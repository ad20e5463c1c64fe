-- The line with the unique, the value and the end of its block are the text of the item.
use Rattle.std.proofs.Common.{true, take}
use Rattle.mc_reply.proofs.Texts.{item-line_block}
use Rattle.mc_reply.proofs.classic.put_unique_item.Goals as goal

pub returns : goal.returns
returns g c =
    let front = take c.place_line-end.result c.place_line-end.new.room in
    let line = take c.place_unique-end.result c.place_unique-end.new.room in
    let item = item-line_block true c.args.key.now c.args.flags c.args.unique c.len.result c.args.value.now front line
    c.len.ensures.value c.place_line-end.ensures.text c.place_unique-end.ensures.text in
    rw item (rw c.split_at.ensures.front at c.put_block.ensures)
