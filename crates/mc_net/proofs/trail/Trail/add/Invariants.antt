-- The bytes so far.
use Rattle.std.proofs.Common.{◌≡◌, ◌++◌, map, take}
use Rattle.mc_net.proofs.trail.Trail.add.Given as goal

abbrev pub invariant-loop-byte : goal.invariant-loop-byte
invariant-loop-byte l =
    map (λ one. one.0) l.self-inside.log.items ≡ map (λ one. one.0) l.initial.self-inside.log.items
    ++ take l.byte-index l.fn.bytes
