-- What the line took and what waits are together what they were, and what waits may be written.
use Rattle.std.proofs.Common.{◌≡◌}
use Rattle.mc_wire.specs.Sink.{took}
use Rattle.mc_transport.specs.Lines.{HasGrown, TakesFront}
use Rattle.mc_transport.specs.Later.{text_in}
use Rattle.mc_transport.proofs.write_buffer.WriteBuffer.flush.Given as goal

abbrev pub invariant-loop : goal.invariant-loop
invariant-loop g l =
    (took (text_in l.self) (g.L.Transport.sight l.line) ≡ took (text_in l.fn.self) (g.L.Transport.sight l.fn.line))
    × HasGrown (g.L.Transport.sight l.fn.line) (g.L.Transport.sight l.line)
    × TakesFront (text_in l.fn.self) (text_in l.self) (g.L.Transport.sight l.fn.line) (g.L.Transport.sight l.line)
    × (g.L.Transport.place l.line ≡ g.L.Transport.place l.fn.line)
    × g.L.Warrant.Warrant.may_write (g.L.Transport.place l.line) (g.L.Transport.sight l.line) (text_in l.self) l.seen
