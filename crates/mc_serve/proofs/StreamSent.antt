-- A source of streams, and a connection over one, can be sent to another thread if what they hold can.
use denote.RattleType.{RattleType}
use denote.Param.Send.{IsSend, IsSync, sendable}
use denote.Param.SendFields.{declared_send, declared_sync}
use Rattle.std.proofs.Crossing.{crosses}
use Rattle.mc_poll.specs.contracts.ghost_log.GhostLog as GhostLog
use Rattle.mc_telemetry.specs.contracts.counter.Counter as counter
use Rattle.mc_telemetry.specs.contracts.counts.EndCounts as ends
use Rattle.mc_telemetry.specs.contracts.counts.SeatCounts as counts
use Rattle.mc_telemetry.specs.contracts.meter.Meter as meter
use Rattle.mc_telemetry.specs.contracts.idle_timer.IdleTimer as idle_timer
use Rattle.mc_telemetry.specs.contracts.shutdown.Shutdown as shutdown
use Rattle.mc_net.specs.declared.arrivals.Arrivals.{Ghosts as ArrivalsGhosts}
use Rattle.mc_net.specs.declared.stream.Stream.{Ghosts as StreamGhosts}
use Rattle.mc_net.proofs.lingering.Lingering.TheSendSync as lingering
use Rattle.mc_net.specs.contracts.stream_source.StreamSource as stream_source
use Rattle.mc_net.specs.contracts.tap.Tap as tap
use Rattle.mc_net.specs.contracts.tcp_connection.TcpConnection as tcp_connection
use Rattle.mc_net.specs.contracts.trail.Trail as trail

-- ---- what a line counts
counter_send : IsSend counter.the_row
counter_send = search (sendable, crosses) depth 20

counter_sync : IsSync counter.the_row
counter_sync = search (sendable, crosses) depth 20

ends_send : IsSend (ends.the_row counter.the_row)
ends_send = declared_send (ends.the_type counter.the_row) (search (counter_send, sendable) depth 10)

ends_sync : IsSync (ends.the_row counter.the_row)
ends_sync = declared_sync (ends.the_type counter.the_row) (search (counter_sync, sendable) depth 10)

counts_send : IsSend (counts.the_row counter.the_row)
counts_send = declared_send (counts.the_type counter.the_row) (search (counter_send, ends_send, sendable) depth 10)

counts_sync : IsSync (counts.the_row counter.the_row)
counts_sync = declared_sync (counts.the_type counter.the_row) (search (counter_sync, ends_sync, sendable) depth 10)

idle_timer_send : IsSend (idle_timer.the_row counter.the_row)
idle_timer_send = search (counter_send, counter_sync, sendable, crosses) depth 20

shutdown_send : IsSend (shutdown.the_row counter.the_row)
shutdown_send = search (counter_send, counter_sync, sendable, crosses) depth 20

meter_send : IsSend (meter.the_row counter.the_row)
meter_send =
    declared_send (meter.the_type counter.the_row)
    (search (counts_send, counts_sync, idle_timer_send, shutdown_send, sendable, crosses) depth 20)

-- ---- what it notes
trail_send : IsSend trail.the_row
trail_send = search (sendable, crosses) depth 20

log_send : (A B : RattleType) → IsSend A → IsSend B → IsSend (GhostLog.the_row A B)
log_send A B a b = search (sendable, crosses) depth 20

reads_send : IsSend (GhostLog.the_row trail.the_row trail.the_row)
reads_send = log_send trail.the_row trail.the_row trail_send trail_send

tap_send : (S : RattleType) (stream : StreamGhosts S.Denot) → IsSend S → IsSend (tap.the_row S stream)
tap_send S stream sent = declared_send (tap.the_type S stream) (search (trail_send, sendable, crosses) depth 20)

-- A connection over a stream can be sent to another thread if the stream can.
pub line_send : (S T : RattleType) (stream : StreamGhosts S.Denot) → IsSend S → IsSend T
    → IsSend (tcp_connection.the_row S T stream)
line_send S T stream sent token =
    let tap_sent : IsSend (tap.the_row S stream) = tap_send S stream sent in
    declared_send (tcp_connection.the_type S T stream)
    (search (tap_sent, reads_send, meter_send, sendable, crosses) depth 20)

-- A source of streams can be sent to another thread if its clock, its arrivals and its streams can.
pub stream_source_send : (R A T S : RattleType) (arrivals : ArrivalsGhosts A.Denot S.Denot)
    (stream : StreamGhosts S.Denot) → IsSend R → IsSend A → IsSend T → IsSend S
    → IsSend (stream_source.the_row R A T S arrivals stream)
stream_source_send R A T S arrivals stream clock handoffs token sent =
    search (lingering.the_send, sendable, crosses) depth 20
