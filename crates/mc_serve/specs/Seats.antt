-- The states of a connection slot, and what it has served of its source in each.
use Rattle.std.specs.Prelude.{ℕ, ◌≡◌, ◌↔◌, Bool, true, false, List, [], ◌∷◌, IsTrue, Some, length}
use Rattle.mc_wire.specs.Sink.{Sight}
use Rattle.mc_ring.specs.Channel.{Near}
use Rattle.mc_ring.specs.Ends.{Ends}
use Rattle.mc_ring.specs.Route.{Name}
use Rattle.mc_history.specs.Tokens.{Acting}
use Rattle.mc_record.specs.Clerk.{answers_at, work_at}
use Rattle.mc_conn.specs.declared.conn.Conn.{Conn}
use Rattle.mc_conn.specs.Conn.{IsConn}
use Rattle.mc_conn.specs.Fits.{KeysFit}
use Rattle.mc_conn.specs.Flow.{IsAtRest, IsOver, Flow}
use Rattle.mc_transport.specs.declared.buffered_conn.BufferedConn.{BufferedConn}
use Rattle.mc_transport.specs.declared.clerk.Clerk.{Ghosts}
use Rattle.mc_transport.specs.declared.warrant.Warrant.{Ghosts as Warrants}
use Rattle.mc_transport.specs.Place.{Place, unbegun}
use Rattle.mc_transport.specs.LineServed.{LineServed}
use Rattle.mc_transport.specs.Explains.{LineFlow}
use Rattle.mc_session.specs.Ending.{EndsFirst}
use Rattle.mc_session.specs.Records.{RecordsPastOf}
use Rattle.mc_session.specs.Routes.{IsUpToDate}
use Rattle.mc_session.specs.Serving.{EndsAll, IsIdle}
use Rattle.mc_session.specs.Session.{IsLineAt, IsRuled, IsServingLine, IsVacant, MayStep, seat_clerk, seat_ends}
use Rattle.mc_session.specs.Session.{session_history}
use Rattle.mc_session.specs.declared.session.Session.{Session}
use Rattle.mc_net.specs.Flow.{SourceFlow, IsDone, IsFree, IsNext, Passes, closed, let_in, took_back}
use Rattle.mc_serve.specs.declared.connection_slot.SlotState.{SlotState}
use Rattle.mc_serve.specs.declared.connection_slot.SlotState.TheVariants as slot_state
use Rattle.mc_command.specs.declared.rules.Rules.{Rules}

-- The connection was served, which took the slot's ends from the first state to the second. Each reply answered the
-- piece at its index.
pub record ServesSourceLine (shards : ℕ) (rules : Rules) (may_answer : ℕ → Type 0) (line : LineFlow)
    (before after : Ends Near) : Type 0 where
  pub conn : Conn
  pub served : LineServed shards rules may_answer line.begin line.now before after conn line.commands line.broke
  pub fits : KeysFit served.flow.shards served.flow.taken served.received

-- The connections were served, one after another.
abbrev pub ServesLines : ℕ → Rules → (ℕ → Type 0) → List LineFlow → Ends Near → Ends Near → Type 0
ServesLines shards rules may_answer [] before after = after ≡ before
ServesLines shards rules may_answer (line ∷ lines) before after =
    (mid : Ends Near) × ServesSourceLine shards rules may_answer line before mid
    × ServesLines shards rules may_answer lines mid after

-- a slot: its source, its ends and its clerk
pub record SeatAt : Type 0 where
  pub source : SourceFlow
  pub ends : Ends Near
  pub clerk : Acting

abbrev pub seat_at : SourceFlow → Ends Near → Acting → SeatAt
seat_at source ends clerk = record { source = source; ends = ends; clerk = clerk }

-- The clerk has recorded each piece that was sent on these ends, and each reply that was received there.
abbrev pub HasRecorded : Acting → Ends Near → Type 0
HasRecorded clerk ends = IsUpToDate (work_at clerk) (answers_at clerk) ends

-- The source has returned that no more connections will come.
pub record SourceIsClosed (before after : SourceFlow) : Type 0 where
  pub done : IsDone before
  pub now : after ≡ closed before

-- Connections of the source were served, until it returned that no more will come.
pub record ServesSource (shards : ℕ) (rules : Rules) (may_answer : ℕ → Type 0) (was at_end : SeatAt) : Type 0 where
  pub lines : List LineFlow
  pub passed : SourceFlow
  pub source : Passes was.source lines passed
  pub lines_are : ServesLines shards rules may_answer lines was.ends at_end.ends
  pub over : SourceIsClosed passed at_end.source

-- Connections of the source were served, until it returned that no more will come; then each channel was closed.
pub record SeatServes (shards : ℕ) (rules : Rules) (may_answer : ℕ → Type 0) (was at_end : SeatAt) : Type 0 where
  pub lines : List LineFlow
  pub passed : SourceFlow
  pub source : Passes was.source lines passed
  pub served : Ends Near
  pub lines_are : ServesLines shards rules may_answer lines was.ends served
  -- The clerk has recorded all of it.
  pub recorded : HasRecorded at_end.clerk served
  pub over : SourceIsClosed passed at_end.source
  pub closed : EndsAll served at_end.ends

module _ {T C : Type 0} {w : Warrants T} {g : Ghosts C T} where
  -- A free slot: connections of the source were served, none is out, and the session may begin another.
  pub record SeatFree (shards : ℕ) (rules : Rules) (may_answer : ℕ → Type 0) (was : SeatAt) (source : SourceFlow)
      (session : Session T C w g) : Type 0 where
    pub free : IsFree was.source
    pub lines : List LineFlow
    pub passed : Passes was.source lines source
    pub lines_are : ServesLines shards rules may_answer lines was.ends (seat_ends session)
    pub width : length (seat_ends session).channels ≡ shards
    pub window : ℕ
    pub vacant : IsVacant rules window session
    pub ruled : IsRuled rules session

  -- A slot whose connection has not begun: connections were served, and one more was accepted.
  pub record SeatBegins (shards : ℕ) (rules : Rules) (may_answer : ℕ → Type 0) (was : SeatAt) (source : SourceFlow)
      (place : Place) (now : Sight) (session : Session T C w g) : Type 0 where
    -- the source before it was accepted
    pub before : SourceFlow
    pub holds : SeatFree shards rules may_answer was before session
    pub next : IsNext now before
    pub came : source ≡ let_in now before
    pub new : place ≡ unbegun (session_history session)

  -- A slot that serves: connections were served, and the one that is out is being served.
  pub record SeatServing (shards : ℕ) (rules : Rules) (may_answer : ℕ → Type 0) (was : SeatAt) (source : SourceFlow)
      (place : Place) (now : Sight) (session : Session T C w g) : Type 0 where
    pub free : IsFree was.source
    pub lines : List LineFlow
    -- the source before the connection was accepted; the connection and the ends when it began
    pub before : SourceFlow
    pub begin : Sight
    pub ends : Ends Near
    pub passed : Passes was.source lines before
    pub next : IsNext begin before
    pub came : source ≡ let_in begin before
    pub lines_are : ServesLines shards rules may_answer lines was.ends ends
    pub width : length ends.channels ≡ shards
    pub serving : IsServingLine shards rules may_answer begin now ends session
    pub line : IsLineAt rules place begin session

-- Connections of the source were served, until it returned that no more will come; then the first `count` channels were
-- closed.
pub record SeatClosing (shards : ℕ) (rules : Rules) (may_answer : ℕ → Type 0) (count : ℕ) (was : SeatAt)
    (source : SourceFlow) (ends : Ends Near) (clerk : Acting) : Type 0 where
  pub served : Ends Near
  pub serves : ServesSource shards rules may_answer was (seat_at source served clerk)
  pub recorded : HasRecorded clerk served
  pub closed : EndsFirst count served ends

module _ {T : Type 0} {w : Warrants T} {g : Ghosts Acting T} where
  -- The invariant of a slot between two steps, by its state. The first argument of type `SeatAt` is how it began.
  abbrev pub SeatHolds : {L : Type 0} → (L → Place) → (L → Sight) → ℕ → Rules → (ℕ → Type 0) → SeatAt → SourceFlow
      → Session T Acting w g → SlotState L → Type 0
  SeatHolds place sight shards rules may_answer was source session slot_state.Free =
      SeatFree shards rules may_answer was source session
  SeatHolds place sight shards rules may_answer was source session (slot_state.Out line false) =
      SeatBegins shards rules may_answer was source (place line) (sight line) session
  SeatHolds place sight shards rules may_answer was source session (slot_state.Out line true) =
      SeatServing shards rules may_answer was source (place line) (sight line) session
  SeatHolds place sight shards rules may_answer was source session (slot_state.Closing count) =
      SeatClosing shards rules may_answer count was source (seat_ends session) (seat_clerk session)
  SeatHolds place sight shards rules may_answer was source session slot_state.Over =
      SeatServes shards rules may_answer was (seat_at source (seat_ends session) (seat_clerk session))

module _ {T C : Type 0} {w : Warrants T} {g : Ghosts C T} where
  -- A slot before its first step.
  pub record IsNewSeat {L : Type 0} (shards : ℕ) (rules : Rules) (source : SourceFlow) (session : Session T C w g)
      (now : SlotState L) : Type 0 where
    pub none : now ≡ slot_state.Free
    pub free : IsFree source
    pub width : length (seat_ends session).channels ≡ shards
    pub window : ℕ
    pub vacant : IsVacant rules window session
    pub ruled : IsRuled rules session

  -- A step may be made: a connection that is out has not begun and is of the session's history, or the session serves
  -- it.
  abbrev pub CanStep : {L : Type 0} → (L → Place) → (L → Sight) → (ℕ → Type 0) → SlotState L → Session T C w g → Type 0
  CanStep place sight may_answer slot_state.Free session = Unit {0}
  CanStep place sight may_answer (slot_state.Out line false) session = place line ≡ unbegun (session_history session)
  CanStep place sight may_answer (slot_state.Out line true) session =
      MayStep may_answer (place line) (sight line) session
  CanStep place sight may_answer (slot_state.Closing count) session = Unit {0}
  CanStep place sight may_answer slot_state.Over session = Unit {0}

module _ {T C : Type 0} {w : Warrants T} {g : Ghosts C T} where
  -- A connection is out that has not begun, of the session's history.
  abbrev pub CanBegin : {L : Type 0} → (L → Place) → SlotState L → Session T C w g → Type 0
  CanBegin place slot_state.Free session = ⊥
  CanBegin place (slot_state.Out line false) session = place line ≡ unbegun (session_history session)
  CanBegin place (slot_state.Out line true) session = ⊥
  CanBegin place (slot_state.Closing count) session = ⊥
  CanBegin place slot_state.Over session = ⊥

  -- The session was renewed, which succeeds if its connection has ended with nothing under way.
  pub record Renews (another : Bool) (old new : Session T C w g) : Type 0 where
    pub when : (buffered_conn : BufferedConn) (flow : Flow) → old.buffered_conn ≡ Some buffered_conn
        → IsConn buffered_conn.conn flow → IsTrue another ↔ (IsAtRest flow × IsOver flow)
    pub vacant : IsTrue another → (buffered_conn : BufferedConn) (flow : Flow) → old.buffered_conn ≡ Some buffered_conn
        → IsConn buffered_conn.conn flow → flow.shards ≡ length (seat_ends old).channels
        → IsIdle old.shard_link.under_way.items → RecordsPastOf old.shard_link (seat_ends old)
        → IsVacant flow.rules flow.window new
    pub ends : seat_ends new ≡ seat_ends old
    pub history : session_history new ≡ session_history old

-- The result of a free slot's `accept`: no connection, one that is out and has not begun, or that no more will come.
abbrev pub Accepts : {L : Type 0} → (L → Place) → (L → Sight) → Name → SlotState L → SourceFlow → SourceFlow → Type 0
Accepts place sight history slot_state.Free old new = new ≡ old
Accepts place sight history (slot_state.Out line false) old new =
    (place line ≡ unbegun history) × IsNext (sight line) old × (new ≡ let_in (sight line) old)
Accepts place sight history (slot_state.Out line true) old new = ⊥
Accepts place sight history (slot_state.Closing count) old new =
    (count ≡ 0) × (new ≡ closed old) × IsDone old
Accepts place sight history slot_state.Over old new = ⊥

-- A connection is out.
abbrev pub IsOut : {L : Type 0} → SlotState L → Type 0
IsOut slot_state.Free = ⊥
IsOut (slot_state.Out line begun) = Unit {0}
IsOut (slot_state.Closing count) = ⊥
IsOut slot_state.Over = ⊥

-- The connection that was out was returned to its source.
abbrev pub IsReturned : {L : Type 0} → (L → Sight) → SlotState L → ℕ → Bool → SourceFlow → SourceFlow → Type 0
IsReturned sight slot_state.Free commands broke old new = ⊥
IsReturned sight (slot_state.Out line begun) commands broke old new = new ≡ took_back (sight line) commands broke old
IsReturned sight (slot_state.Closing count) commands broke old new = ⊥
IsReturned sight slot_state.Over commands broke old new = ⊥

-- The result of closing a channel: one more is closed, or none was; or all of them were closed before.
abbrev pub ClosesOn : {L : Type 0} → Ends Near → SlotState L → Ends Near → Type 0
ClosesOn served slot_state.Free ends = ⊥
ClosesOn served (slot_state.Out line begun) ends = ⊥
ClosesOn served (slot_state.Closing count) ends = EndsFirst count served ends
ClosesOn served slot_state.Over ends = EndsAll served ends
