-- A write that was interrupted gave nothing to the stream.
use Rattle.std.specs.Io.KnownBytes.{Keeps}
use Rattle.mc_net.proofs.tap.write_some_of.Given as goal

abbrev pub invariant-loop : goal.invariant-loop
invariant-loop g l =
    Keeps (g.S.Stream.contents l.initial.stream) (g.S.Stream.contents l.stream)
    × Keeps (g.S.Stream.remaining l.initial.stream) (g.S.Stream.remaining l.stream)
