-- The bytes so far, and how many are left.
use Rattle.std.proofs.Common.{◌≡◌, ◌++◌, take, drop}
use Rattle.std.specs.Io.Slices.{io_slices_bytes}
use Rattle.mc_net.proofs.trail.Trail.add_first.Given as goal

abbrev pub invariant-loop-buf : goal.invariant-loop-buf
invariant-loop-buf l =
    l.self ++ take l.left (io_slices_bytes (drop l.buf-index l.bufs))
    ≡ l.initial.self ++ take l.fn.count (io_slices_bytes l.bufs)
