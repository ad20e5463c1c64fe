-- The size and the flags were written, then the rest of the line with the value.
use Rattle.mc_wire.proofs.Sinks.{breaks}
use Rattle.mc_reply.proofs.Texts.{first_breaks, found_text, writes_rest, wrote_first}
use Rattle.mc_reply.proofs.meta.put_found.Goals as goal

pub returns-in_err-put_size : goal.returns-in_err-put_size
returns-in_err-put_size g c = λ kind.
    let parts = found_text kind c.args.flags.now c.args.key.now c.args.answer.now c.args.hit.now c.args.value
    c.len-2.result c.marks_line-end.result.now c.requires c.if-not-value.false c.len-2.ensures.value
    c.marks_line-end.ensures.line in
    breaks _ c.from_residual.result _ _ c.from_residual.ensures.0 (first_breaks _ _ parts c.in_err-put_size.ensures)

pub returns : goal.returns
returns g c = λ kind.
    let parts = found_text kind c.args.flags.now c.args.key.now c.args.answer.now c.args.hit.now c.args.value
    c.len-2.result c.marks_line-end.result.now c.requires c.if-not-value.false c.len-2.ensures.value
    c.marks_line-end.ensures.line in
    writes_rest _ c.put_block.result (wrote_first _ parts c.in_ok-put_size.ensures) c.put_block.ensures
