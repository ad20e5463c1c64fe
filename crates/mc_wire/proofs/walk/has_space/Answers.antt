-- The loop ends at the last of the bytes.
use Rattle.std.proofs.Common.{◌≡◌, arith}
use Rattle.mc_wire.proofs.walk.has_space.Goals as goal

pub returns : goal.returns
returns c =
    let all : c.loop-i.i ≡ 16 = omega arith in
    rw all at c.loop-i.invariant
