-- The log texts of events.
use Rattle.std.specs.Prelude.{ℕ, List, ◌++◌, Option, Some, None, codes, decimal, nat_eq, if◌then◌else◌}
use Rattle.std.specs.Net.Text.{socket_text}
use Rattle.mc_telemetry.specs.declared.event.ConnectionEvent.{ConnectionEvent}
use Rattle.mc_telemetry.specs.declared.event.ConnectionEvent.TheVariants.{Opened, Closed, NotAccepted, SeatsTaken}
use Rattle.mc_telemetry.specs.declared.event.ConnectionEvent.TheVariants.{SeatFree}
use Rattle.mc_telemetry.specs.declared.event.Peer.{Peer}
use Rattle.mc_telemetry.specs.declared.event.Peer.TheVariants.{At, Unix}
use Rattle.mc_telemetry.specs.declared.event.Manner.{Manner}
use Rattle.mc_telemetry.specs.declared.event.Manner.TheVariants.{ByClient, Quit, LineTooLong, Binary, Http, Tls, Idle}
use Rattle.mc_telemetry.specs.declared.event.Manner.TheVariants.{ReadFailed, WriteFailed, NoMemory, ShutdownRequested}
use Rattle.mc_telemetry.specs.declared.event.Manner.TheVariants.{Shutdown}

abbrev pub manner_text : Manner → List ℕ
manner_text ByClient = codes "closed by client"
manner_text Quit = codes "client quit"
manner_text LineTooLong = codes "line too long"
manner_text Binary = codes "speaks the binary protocol"
manner_text Http = codes "speaks HTTP"
manner_text Tls = codes "speaks TLS"
manner_text Idle = codes "idle timeout"
manner_text ReadFailed = codes "read failed"
manner_text WriteFailed = codes "write failed"
manner_text NoMemory = codes "no memory for replies"
manner_text ShutdownRequested = codes "client sent shutdown"
manner_text Shutdown = codes "server shutdown"

-- who a connection comes from
abbrev pub peer_text : Peer → List ℕ
peer_text (At address) = socket_text address
peer_text Unix = codes "unix"

-- a count with its noun
abbrev pub counted_text : ℕ → List ℕ → List ℕ
counted_text count one =
    if nat_eq count 1 then codes "1 " ++ one else decimal count ++ (codes " " ++ (one ++ codes "s"))

-- the text of an event, except for a failed accept with an errno, for which the system has the text
abbrev pub event_text : ConnectionEvent → Option (List ℕ)
event_text (Opened peer seat) =
    Some (peer_text peer ++ (codes " on seat " ++ (decimal seat ++ codes ": opened")))
event_text (Closed peer seat manner commands read written) =
    Some (peer_text peer ++ (codes " on seat " ++ (decimal seat ++ (codes ": " ++ (manner_text manner ++ (codes "; "
    ++ (counted_text commands (codes "command") ++ (codes ", " ++ (counted_text read (codes "byte") ++ (codes " read, "
    ++ (counted_text written (codes "byte") ++ codes " written")))))))))))
event_text (NotAccepted None) = Some (codes "accept failed")
event_text (NotAccepted (Some fault)) = None
event_text SeatsTaken = Some (codes "all seats are taken")
event_text SeatFree = Some (codes "a seat is free again")
