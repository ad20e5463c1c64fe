-- A buffer's part of the first bytes was added.
use Rattle.std.proofs.Common.{◌++◌, take, ap, ◌∙◌}
use Rattle.std.specs.Io.Slices.{io_slices_bytes}
use Rattle.mc_net.proofs.Buffers.{adds_next}
use Rattle.mc_net.proofs.trail.Trail.add_first.Goals as goal

pub loop-buf-preserved : goal.loop-buf-preserved
loop-buf-preserved c =
    let all = c.args.self.now ++ take c.args.count (io_slices_bytes c.args.bufs.now) in
    let bytes = c.as_slice-bytes.result.now in
    let front_is = c.split_at.ensures.front ∙ ap (λ n. take n bytes) c.min.ensures in
    rw c.add.ensures (adds_next c.args.bufs.now c.loop-buf.buf-index c.loop-buf.left c.loop-buf.self all bytes
    c.split_at.result.0.now _ c.loop-buf-test.true c.as_slice-bytes.ensures front_is c.loop-buf.invariant)
