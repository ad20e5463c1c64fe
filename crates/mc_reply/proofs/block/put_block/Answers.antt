-- The line was written, then the value, then the end of its block.
use Rattle.std.proofs.Common.{◌++◌, codes, refl, ap, sym}
use Rattle.mc_wire.proofs.Sinks.{breaks, breaks_first, breaks_later}
use Rattle.mc_reply.proofs.Texts.{WroteBut, writes_rest, wrote_first, wrote_more, writes_same}
use Rattle.mc_reply.proofs.block.put_block.Goals as goal

pub returns-in_err-put_to : goal.returns-in_err-put_to
returns-in_err-put_to g c =
    breaks _ c.from_residual-in_err-put_to.result _ _ c.from_residual-in_err-put_to.ensures.0
    (breaks_later _ _ _ c.args.line.now (c.args.value.now ++ codes "\r\n")
    c.in_ok-write_all.ensures (breaks_first _ _ c.args.value.now (codes "\r\n") c.in_err-put_to.ensures))

pub returns : goal.returns
returns g c =
    let value = c.args.value.now in
    let whole = c.args.line.now ++ (value ++ codes "\r\n") in
    let line : WroteBut whole (value ++ codes "\r\n") (g.O.Sink.sight c.args.out.now)
    (g.O.Sink.sight c.write_all.new.out) = wrote_first c.args.line.now refl c.in_ok-write_all.ensures in
    writes_rest _ c.write_all-2.result (wrote_more value (codes "\r\n") line c.in_ok-put_to.ensures)
    c.write_all-2.ensures

pub returns-then-bytes-lt-MIN_SHARED : goal.returns-then-bytes-lt-MIN_SHARED
returns-then-bytes-lt-MIN_SHARED g c =
    writes_same _ _ c.put_parts.result
    (ap (λ xs. c.args.line.now ++ (xs ++ codes "\r\n")) (sym c.bytes-bytes.ensures.value)) c.put_parts.ensures
