-- The event of an ended connection.
use Rattle.std.specs.Prelude.{ℕ}
use Rattle.mc_telemetry.specs.declared.event.ConnectionEvent.TheVariants.{Closed}
use Rattle.mc_telemetry.specs.declared.event.Peer.{Peer}
use Rattle.mc_telemetry.specs.declared.meter.Meter.{Meter}
use Rattle.mc_telemetry.specs.declared.reporter.Reporter.{Reporter}
use Rattle.mc_telemetry.specs.Reports.{Reported}

-- it was reported with its peer and slot, its number of commands, and its reason and bytes from its meter
abbrev pub TellsClosed : {C : Type 0} → Peer → ℕ → Meter C → ℕ → Reporter → Reporter → Type 0
TellsClosed peer seat meter commands old new =
    Reported old (Closed peer seat meter.manner commands meter.read meter.written) new
