-- Commands of the line were taken.
use Rattle.std.proofs.Common.{ℕ, List}
use Rattle.mc_wire.specs.Sink.{Sight}
use Rattle.mc_ring.specs.Reply.{Shown}
use Rattle.mc_conn.specs.Flow.{Flow}
use Rattle.mc_transport.specs.BufferedConn.{IsServing}
use Rattle.mc_transport.proofs.Serving.{TakesSome}
use Rattle.mc_transport.proofs.buffered_conn.BufferedConn.take_all.Given as goal

abbrev pub invariant-loop : goal.invariant-loop
invariant-loop g l =
    (received : ℕ → List Shown) (begin now : Sight) (flow : Flow)
    → IsServing received (g.K.Clock.may_answer l.fn.clock) begin now flow l.fn.self
    → TakesSome received (g.K.Clock.may_answer l.fn.clock) begin now flow l.counter l.self
