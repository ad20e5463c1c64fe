-- A read that was interrupted took nothing from the stream.
use Rattle.std.proofs.Common.{◌≡◌, length}
use Rattle.std.specs.Io.KnownBytes.{Keeps}
use Rattle.mc_net.proofs.tap.read_some.Given as goal

abbrev pub invariant-loop : goal.invariant-loop
invariant-loop g l =
    Keeps (g.S.Stream.remaining l.initial.stream) (g.S.Stream.remaining l.stream)
    × Keeps (g.S.Stream.contents l.initial.stream) (g.S.Stream.contents l.stream)
    × (length l.room ≡ length l.initial.room)
