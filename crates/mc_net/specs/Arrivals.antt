-- The streams of a slot.
use Rattle.std.specs.Prelude.{ℕ, ◌≡◌, Bool, List, [], ◌∷◌, Option, Some, None}
use Rattle.std.specs.Io.KnownBytes.{Keeps}
use Rattle.mc_net.specs.declared.lingering.Lingering.{Lingering}
use Rattle.mc_net.specs.declared.stream.Stream.{Ghosts}
use Rattle.mc_net.specs.declared.tcp_connection.TcpConnection.{TcpConnection}
use Rattle.mc_net.specs.declared.arrivals.NewStream.{NewStream}
use Rattle.mc_net.specs.declared.connection_source.Accept.{Accept}
use Rattle.mc_net.specs.declared.connection_source.Accept.TheVariants as arrival

-- This stream is the next one to come, if that is known.
abbrev pub ComesNext : {S : Type 0} → S → Option (List S) → Option (List S) → Type 0
ComesNext stream None after = after ≡ None
ComesNext stream (Some []) after = ⊥
ComesNext stream (Some (next ∷ streams)) after = (next ≡ stream) × (after ≡ Some streams)

-- No further stream comes, if that is known.
abbrev pub NoneComes : {S : Type 0} → Option (List S) → Type 0
NoneComes None = Unit {0}
NoneComes (Some streams) = streams ≡ []

-- The result of `next`, and the streams to come then.
abbrev pub StreamArrives : {S : Type 0} → Accept (NewStream S) → Option (List S) → Option (List S) → Type 0
StreamArrives (arrival.Came new) old after = ComesNext new.stream old after
StreamArrives arrival.NotYet old after = after ≡ old
StreamArrives arrival.Over old after = (after ≡ old) × NoneComes old

-- A line that was accepted has protocol detection, as the source requires it.
abbrev pub CameWary : {S T : Type 0} {g : Ghosts S} → Bool → Accept (TcpConnection S T g) → Type 0
CameWary sniffs_protocol (arrival.Came line) = line.sniff_protocol ≡ sniffs_protocol
CameWary sniffs_protocol arrival.NotYet = Unit {0}
CameWary sniffs_protocol arrival.Over = Unit {0}

-- A lingering stream has the output that it had then, and no more.
abbrev pub KeepsContents : {S : Type 0} → (S → Option (List ℕ)) → S → Option (Lingering S) → Type 0
KeepsContents contents stream None = Unit {0}
KeepsContents contents stream (Some lingering) = Keeps (contents stream) (contents lingering.stream)
