-- What is left to pass is the beginning of what waits now.
use Rattle.std.proofs.Common.{◌≡◌, ◌≤◌, length, drop}
use Rattle.mc_transport.specs.Later.{ahead, text_in}
use Rattle.mc_transport.proofs.write_buffer.WriteBuffer.pass.Given as goal

abbrev pub invariant-loop-left : goal.invariant-loop-left
invariant-loop-left l =
    (l.left ≤ length (text_in l.self))
    × (drop l.left (text_in l.self) ≡ drop l.fn.count (text_in l.fn.self))

abbrev pub decreases-loop-left : goal.decreases-loop-left
decreases-loop-left l = ahead l.self
