-- While nothing comes the line stays as it is.
use Rattle.std.proofs.Common.{◌≡◌, length}
use Rattle.std.specs.Io.KnownBytes.{Keeps}
use Rattle.mc_net.specs.Beginning.{place_of}
use Rattle.mc_net.specs.Tcp.{sight_of}
use Rattle.mc_net.proofs.tcp_connection.TcpConnectionTransport.read.Given as goal

abbrev pub invariant-loop : goal.invariant-loop
invariant-loop g l = record {
  sight : sight_of l.self ≡ sight_of l.initial.self;
  stream : Keeps (g.S.Stream.remaining l.initial.self.tap.stream) (g.S.Stream.remaining l.self.tap.stream);
  place : place_of g.T.Warrant.place_at g.T.Token.name l.self.begun
      ≡ place_of g.T.Warrant.place_at g.T.Token.name l.initial.self.begun;
  room : length l.room ≡ length l.initial.room;
}
