-- The history of a connection over a stream, and of the source that accepts connections.
use Rattle.std.specs.Prelude.{ℕ, ◌≡◌, ◌+◌, Bool, false, List, [], ◌∷◌, Option, Some, None, Result, Ok, Err, length, map}
use Rattle.std.specs.Prelude.{take}
use Rattle.mc_wire.specs.Sink.{Listed, Read, Sight, Trace, Unlisted}
use Rattle.mc_transport.specs.Explains.{LineFlow}
use Rattle.mc_net.specs.Flow.{SourceFlow, TellsLines, TellsNothing}
use Rattle.mc_net.specs.declared.stream.Stream.{Ghosts}
use Rattle.mc_net.specs.declared.stream_source.ClosedConnection.{ClosedConnection}
use Rattle.mc_net.specs.declared.tcp_connection.TcpConnection.{TcpConnection}
use Rattle.std.specs.declared.snapshot.Snapshot.{Snapshot}
use Rattle.std.specs.Io.KnownBytes.{Appends, Consumes, Keeps}

-- a read, by the bytes read and written before it
abbrev pub read_of : List ℕ × List ℕ → Read
read_of one = record { given = Listed one.0; taken = Listed one.1 }

-- bytes that are known or not
abbrev pub trace_of : Option (List ℕ) → Trace
trace_of None = Unlisted
trace_of (Some bytes) = Listed bytes

-- the note at the start of a connection: the bytes that its stream had to read, and those written to it
-- before
abbrev pub note_of : Option (List ℕ) → Option (List ℕ) → Read
note_of remaining contents = record { given = trace_of remaining; taken = trace_of contents }

-- a connection over a new stream, with these bytes to read and those written, if they are known: nothing was
-- read or written by the connection
abbrev pub new_line : Option (List ℕ) → Option (List ℕ) → Sight
new_line remaining contents =
    record {
      given = Listed [];
      ended = false;
      reads = Some (note_of remaining contents ∷ []);
      taken = Listed [];
      failed = false;
    }

-- the history of a connection
abbrev pub sight_of : {S T : Type 0} {g : Ghosts S} → TcpConnection S T g → Sight
sight_of {g = g} line = record {
  given = Listed line.tap.given;
  ended = line.ended;
  reads =
      Some (note_of (g.remaining line.tap.begin.value) (g.contents line.tap.begin.value) ∷ map read_of
      line.reads.items);
  taken = Listed line.tap.taken;
  failed = line.failed;
}

-- Exactly the bytes that a read reports were read from the stream, whose bytes are known or not.
abbrev pub ReadsStream : {E : Type 0} → List ℕ → Result (Option ℕ) E → Option (List ℕ) → Option (List ℕ) → Type 0
ReadsStream room (Ok (Some count)) old new = Consumes old new (take count room)
ReadsStream room (Ok None) old new = Keeps old new
ReadsStream room (Err fault) old new = Keeps old new

-- Exactly the bytes that a write reports were written to the stream, whose bytes are known or not.
abbrev pub WritesStream : {E : Type 0} → List ℕ → Result ℕ E → Option (List ℕ) → Option (List ℕ) → Type 0
WritesStream bytes (Ok count) old new = Appends old new (take count bytes)
WritesStream bytes (Err fault) old new = Keeps old new

-- A write of a line reports as many bytes as its stream took, 0 included; if it fails, the stream took none.
abbrev pub TellsWrite : {D E : Type 0} → Result ℕ D → Result ℕ E → Type 0
TellsWrite (Ok count) (Ok flow) = flow ≡ count
TellsWrite (Ok count) (Err fault) = count ≡ 0
TellsWrite (Err why) (Ok flow) = flow ≡ 0
TellsWrite (Err why) (Err fault) = Unit {0}

-- a closed connection: the bytes read and written
abbrev pub gone_line : {S T : Type 0} {g : Ghosts S} → ClosedConnection S T g → LineFlow
gone_line gone = record {
  begin = sight_of gone.begin.value;
  now = sight_of gone.line.value;
  commands = gone.commands;
  broke = gone.broke;
}

-- the closed connections of a slot, in order
abbrev pub gone_lines : {S T : Type 0} {g : Ghosts S} → List (ClosedConnection S T g × Unit {0}) → List LineFlow
gone_lines gone = map (λ one. gone_line one.0) gone

-- the connection being served, in the state in which it was accepted
abbrev pub out_line : {S T : Type 0} {g : Ghosts S} → Option (Snapshot (TcpConnection S T g)) → Option Sight
out_line None = None
out_line (Some begin) = Some (sight_of begin.value)

-- the streams to come, if they are known, as connections
abbrev pub new_lines : {S : Type 0} → (S → Option (List ℕ)) → (S → Option (List ℕ)) → Option (List S)
    → Option (List Sight)
new_lines remaining contents None = None
new_lines remaining contents (Some streams) =
    Some (map (λ stream. new_line (remaining stream) (contents stream)) streams)

-- a source that has accepted nothing yet
abbrev pub new_source : {S : Type 0} → (S → Option (List ℕ)) → (S → Option (List ℕ)) → Option (List S) → SourceFlow
new_source remaining contents coming = TellsLines (new_lines remaining contents coming) None [] false

-- the history of a slot's source: the streams to come, if they are known, the connection being served, the
-- closed ones, and whether it returned that no more will come
abbrev pub flow_source : {S T : Type 0} {g : Ghosts S} → Option (List S) → Option (Snapshot (TcpConnection S T g))
    → List (ClosedConnection S T g × Unit {0}) → Bool → SourceFlow
flow_source {g = g} coming out gone over =
    TellsLines (new_lines g.remaining g.contents coming) (out_line out) (gone_lines gone) over

-- The stream of this connection, which was in this state when it was accepted, was read for exactly the bytes
-- of the connection's input. It took exactly the connection's output, until the connection ended.
pub record IsServed {S T : Type 0} {g : Ghosts S} (stream : S) (one : ClosedConnection S T g) : Type 0 where
  pub gave : Consumes (g.remaining stream) (g.remaining one.line.value.tap.stream) one.line.value.tap.given
  pub took : Appends (g.contents stream) (g.contents one.line.value.tap.stream) one.line.value.tap.taken

-- the number of lines returned to the sources, all together
abbrev pub gone_count : List SourceFlow → ℕ
gone_count [] = 0
gone_count (TellsNothing ∷ sources) = gone_count sources
gone_count (TellsLines coming out back over ∷ sources) = length back + gone_count sources
