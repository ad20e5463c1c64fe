-- The first bytes are those of the first buffer that isn't empty.
use Rattle.std.proofs.Common.{arith}
use Rattle.mc_transport.proofs.Buffers.{begins_with, passes_empty}
use Rattle.mc_transport.proofs.transport.first_filled.Goals as goal

pub returns-then-not-is_empty : goal.returns-then-not-is_empty
returns-then-not-is_empty c =
    begins_with c.args.bufs.now c.loop-buf.buf-index c.as_slice-bytes.result.now _ c.loop-buf-test.true
    c.loop-buf.invariant c.as_slice-bytes.ensures

pub loop-buf-preserved : goal.loop-buf-preserved
loop-buf-preserved c =
    passes_empty c.args.bufs.now c.loop-buf.buf-index c.as_slice-bytes.result.now _ c.loop-buf-test.true
    c.loop-buf.invariant c.as_slice-bytes.ensures (grind (arith, c.if-not-is_empty.ensures))
