-- How a service reads on.
use Rattle.std.specs.Prelude.{ℕ, ◌≡◌, List, []}
use Rattle.mc_wire.specs.Sink.{Sight}
use Rattle.mc_ring.specs.Reply.{Shown}
use Rattle.mc_conn.specs.Flow.{Flow}
use Rattle.mc_transport.specs.declared.buffered_conn.BufferedConn.{BufferedConn}
use Rattle.mc_transport.specs.declared.buffered_conn.LineStep.{LineStep}
use Rattle.mc_transport.specs.Later.{text_in}
use Rattle.mc_transport.specs.BufferedConn.{HasStopped, ServiceSays}
use Rattle.mc_transport.specs.internal.Stands.{IsComplete}
use Rattle.mc_transport.specs.internal.Steps.{all_handed}

-- What going on does, once the line took the replies to all commands taken.
abbrev pub ReadingSays : LineStep → (ℕ → Type 0) → BufferedConn → Sight → BufferedConn → Sight → Type 0
ReadingSays did may_answer old before new now =
    (received : ℕ → List Shown) (begin : Sight) (flow : Flow)
    → HasStopped received may_answer begin before (all_handed flow) old → text_in old.unwritten ≡ []
    → IsComplete received flow → ServiceSays did received may_answer begin now flow new
