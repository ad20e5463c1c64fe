-- Whatever comes is dropped, and nothing is written.
use Rattle.std.specs.Io.KnownBytes.{Keeps}
use Rattle.mc_net.proofs.lingering.Lingering.go_on.Given as goal

abbrev pub invariant-loop : goal.invariant-loop
invariant-loop g l = Keeps (g.S.Stream.contents l.initial.self.stream) (g.S.Stream.contents l.self.stream)
