-- The buffers so far are empty.
use Rattle.std.proofs.Common.{◌≡◌, drop}
use Rattle.std.specs.Io.Slices.{io_slices_bytes}
use Rattle.mc_transport.proofs.transport.first_filled.Given as goal

abbrev pub invariant-loop-buf : goal.invariant-loop-buf
invariant-loop-buf l = io_slices_bytes l.bufs ≡ io_slices_bytes (drop l.buf-index l.bufs)
