-- The size and the flags were written, then the end of the line with the number.
use Rattle.std.proofs.Common.{◌∙◌}
use Rattle.mc_wire.proofs.Sinks.{breaks}
use Rattle.mc_reply.proofs.Texts.{done_text, first_breaks, writes_rest, wrote_first}
use Rattle.mc_reply.proofs.meta.put_done.Goals as goal

pub returns-in_err-put_size : goal.returns-in_err-put_size
returns-in_err-put_size g c = λ kind.
    let parts = done_text kind c.args.flags.now c.args.key.now c.args.answer.now c.args.done.now c.args.value
    c.as_bytes-number.result.now c.requires c.if-not-value.false
    (c.as_bytes-number.ensures.value ∙ c.format.ensures.text) in
    breaks _ c.from_residual.result _ _ c.from_residual.ensures.0 (first_breaks _ _ parts c.in_err-put_size.ensures)

pub returns : goal.returns
returns g c = λ kind.
    let parts = done_text kind c.args.flags.now c.args.key.now c.args.answer.now c.args.done.now c.args.value
    c.as_bytes-number.result.now c.requires c.if-not-value.false
    (c.as_bytes-number.ensures.value ∙ c.format.ensures.text) in
    writes_rest _ c.put_parts.result (wrote_first _ parts c.in_ok-put_size.ensures) c.put_parts.ensures
