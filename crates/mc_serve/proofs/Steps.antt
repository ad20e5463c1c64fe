-- Each step of a slot keeps its invariant.
use Rattle.std.proofs.Common.{◌≡◌, ℕ, Bool, true, false, [], length, Ok, Err, OnErr, OnOk, Result, refl, sym}
use Rattle.std.proofs.Common.{ap, subst, ◌∙◌}
use Rattle.std.specs.Prelude.{IsTrue}
use Rattle.std.specs.Result.{is_ok}
use Rattle.mc_wire.specs.Sink.{Sight}
use Rattle.mc_ring.specs.Channel.{Near}
use Rattle.mc_ring.specs.Ends.{Ends}
use Rattle.mc_ring.specs.Route.{Name}
use Rattle.mc_sizes.specs.Sizes.{rules_of}
use Rattle.mc_history.specs.Tokens.{Acting}
use Rattle.mc_conn.specs.declared.conn.Conn.{Conn}
use Rattle.mc_transport.specs.declared.clerk.Clerk.{Ghosts}
use Rattle.mc_transport.specs.declared.warrant.Warrant.{Ghosts as Warrants}
use Rattle.mc_transport.specs.Place.{Place}
use Rattle.mc_transport.specs.LineServed.{LineServed}
use Rattle.mc_transport.specs.Explains.{LineFlow}
use Rattle.mc_session.specs.declared.session.Session.{Session}
use Rattle.mc_session.specs.Records.{RecordsPastOf}
use Rattle.mc_session.specs.Service.{WasServedBy}
use Rattle.mc_session.specs.Session.{HasServed, IsLineAt, IsRuled, IsServingLine, IsVacant, seat_clerk, seat_ends}
use Rattle.mc_session.specs.Session.{session_history}
use Rattle.mc_session.specs.Ending.{EndsFirst}
use Rattle.mc_session.proofs.Ending.{ends_none}
use Rattle.mc_session.proofs.Sessions.{SomeAnd, may_serve, some_and}
use Rattle.mc_net.specs.Flow.{SourceFlow, IsFree, took_back}
use Rattle.mc_serve.specs.declared.connection_slot.SlotState.{SlotState}
use Rattle.mc_serve.specs.declared.connection_slot.SlotState.TheVariants as slot_state
use Rattle.mc_serve.specs.Seats.{Accepts, CanBegin, CanStep, ClosesOn, HasRecorded, Renews, SeatAt, SeatHolds}
use Rattle.mc_serve.specs.Seats.{ServesSourceLine, SeatBegins, SeatClosing, SeatFree, SeatServing, seat_at}
use Rattle.mc_serve.proofs.Chain.{OneMore, one_more, passes_none}
use Rattle.mc_command.specs.declared.rules.Rules.{Rules}

-- Sessions of the same history are of servers by the same rules.
same_rules : {T C : Type 0} {w : Warrants T} {g : Ghosts C T} (rules : Rules) (old new : Session T C w g)
    → session_history new ≡ session_history old → IsRuled rules old → IsRuled rules new
same_rules rules old new same ruled keeps = ruled keeps ∙ ap (λ (name : Name). rules_of name.sizes) (sym same)

module _ (shards : ℕ) (rules : Rules) (may_answer : ℕ → Type 0) where
  -- A new slot is free, and has served nothing.
  pub holds_first : {T : Type 0} {w : Warrants T} {g : Ghosts Acting T} (source : SourceFlow)
      (session : Session T Acting w g) (window : ℕ)
      → IsFree source → length (seat_ends session).channels ≡ shards → IsVacant rules window session
      → IsRuled rules session
      → SeatFree shards rules may_answer (seat_at source (seat_ends session) (seat_clerk session)) source session
  holds_first source session window free width vacant ruled =
      record {
        free = free;
        lines = [];
        passed = passes_none source;
        lines_are = refl;
        width = width;
        window = window;
        vacant = vacant;
        ruled = ruled;
      }

  -- A free slot has accepted a connection, or none, or its source has no more.
  pub accepted : {L : Type 0} {T : Type 0} {w : Warrants T} {g : Ghosts Acting T} (place : L → Place)
      (sight : L → Sight) (was : SeatAt) (source source' : SourceFlow) (session : Session T Acting w g)
      (now : SlotState L)
      → (RecordsPastOf session.shard_link (seat_ends session) → HasRecorded (seat_clerk session) (seat_ends session))
      → Accepts place sight (session_history session) now source source'
      → SeatFree shards rules may_answer was source session
      → SeatHolds place sight shards rules may_answer was source' session now
  accepted place sight was source source' session slot_state.Free reads same holds = let S : SourceFlow → Type 0 =
      λ d. SeatFree shards rules may_answer was d session in subst S (sym same) holds
  accepted place sight was source source' session (slot_state.Out line false) reads came holds =
      record { before = source; holds = holds; next = came.1; came = came.2; new = came.0 }
  accepted place sight was source source' session (slot_state.Out line true) reads came holds = absurd came
  accepted place sight was source source' session (slot_state.Closing count) reads none holds =
      let C : ℕ → Type 0 =
      λ n. SeatClosing shards rules may_answer n was source' (seat_ends session) (seat_clerk session) in
      subst C (sym none.0) (record {
        served = seat_ends session;
        serves =
            record {
              lines = holds.lines;
              passed = source;
              source = holds.passed;
              lines_are = holds.lines_are;
              over = record { done = none.2; now = none.1 };
            };
        recorded = reads holds.vacant.recorded;
        closed = ends_none (seat_ends session);
      })
  accepted place sight was source source' session slot_state.Over reads none holds = absurd none

  -- A connection that may begin has not begun.
  pub unbegun_yet : {L : Type 0} {T : Type 0} {w : Warrants T} {g : Ghosts Acting T} (place : L → Place)
      (session : Session T Acting w g) (now : SlotState L) (line : L) (begun : Bool)
      → now ≡ slot_state.Out line begun → CanBegin place now session → begun ≡ false
  unbegun_yet {L} {T} {w} {g} place session now line false is may = refl
  unbegun_yet {L} {T} {w} {g} place session now line true is may = let P : SlotState L → Type 0 =
      λ p. CanBegin place p session in absurd (subst P is may)

  -- The connection that was accepted begins to be served.
  pub begins : {T C : Type 0} {w : Warrants T} {g : Ghosts C T} (was : SeatAt) (source : SourceFlow)
      (place place' : Place) (begin : Sight) (session session' : Session T C w g)
      → ((rules : Rules) (window : ℕ) (line : Sight) → IsVacant rules window session
      → IsServingLine (length (seat_ends session).channels) rules may_answer line line (seat_ends session) session')
      → ((rules : Rules) → IsRuled rules session → IsLineAt rules place' begin session')
      → SeatBegins shards rules may_answer was source place begin session
      → SeatServing shards rules may_answer was source place' begin session'
  begins was source place place' begin session session' serves line came =
      let holds = came.holds in
      let S : ℕ → Type 0 = λ n. IsServingLine n rules may_answer begin begin (seat_ends session) session' in
      record {
        free = holds.free;
        lines = holds.lines;
        before = came.before;
        begin = begin;
        ends = seat_ends session;
        passed = holds.passed;
        next = came.next;
        came = came.came;
        lines_are = holds.lines_are;
        width = holds.width;
        serving = subst S holds.width (serves rules holds.window begin holds.vacant);
        line = line rules holds.ruled;
      }

  -- The connection waits, and the session is unchanged.
  pub still_begins : {T C : Type 0} {w : Warrants T} {g : Ghosts C T} (was : SeatAt) (source : SourceFlow)
      (place : Place) (begin : Sight) (session session' : Session T C w g) → session' ≡ session
      → SeatBegins shards rules may_answer was source place begin session
      → SeatBegins shards rules may_answer was source place begin session'
  still_begins {T} {C} {w} {g} was source place begin session session' same came = let S : Session T C w g → Type 0 =
      λ s. SeatBegins shards rules may_answer was source place begin s in subst S (sym same) came

  -- The connection begins to be served if there was memory for it; otherwise it waits, with its output ended.
  pub begins_where : {L E : Type 0} {T : Type 0} {w : Warrants T} {g : Ghosts Acting T} (place : L → Place)
      (sight : L → Sight) (was : SeatAt) (source source' : SourceFlow) (line begun line' : L)
      (session session' : Session T Acting w g) (tried : Result (Unit {0}) E)
      → OnOk tried ((rules : Rules) (window : ℕ) (begin : Sight) → IsVacant rules window session
      → IsServingLine (length (seat_ends session).channels) rules may_answer begin begin (seat_ends session) session')
      → OnOk tried ((rules : Rules) → IsRuled rules session → IsLineAt rules (place begun) (sight line) session')
      → OnErr tried (session' ≡ session) → OnErr tried (place begun ≡ place line) → source' ≡ source
      → place line' ≡ place begun → sight line' ≡ sight line
      → SeatBegins shards rules may_answer was source (place line) (sight line) session
      → SeatHolds place sight shards rules may_answer was source' session' (slot_state.Out line' (is_ok tried))
  begins_where place sight was source source' line begun line' session session' (Ok done) serves at same unplaced flow
      placed seen came =
      let D : SourceFlow → Type 0 =
      λ d. SeatServing shards rules may_answer was d (place line') (sight line') session' in
      let P : Place → Type 0 = λ at. SeatServing shards rules may_answer was source at (sight line') session' in
      let S : Sight → Type 0 = λ now. SeatServing shards rules may_answer was source (place begun) now session' in
      subst D (sym flow) (subst P (sym placed) (subst S (sym seen)
      (begins was source (place line) (place begun) (sight line) session session' serves at came)))
  begins_where place sight was source source' line begun line' session session' (Err refused) serves at same unplaced
      flow placed seen came =
      let D : SourceFlow → Type 0 =
      λ d. SeatBegins shards rules may_answer was d (place line') (sight line') session' in
      let P : Place → Type 0 = λ at. SeatBegins shards rules may_answer was source at (sight line') session' in
      let S : Sight → Type 0 = λ now. SeatBegins shards rules may_answer was source (place line) now session' in
      subst D (sym flow) (subst P (sym (placed ∙ unplaced)) (subst S (sym seen)
      (still_begins was source (place line) (sight line) session session' same came)))

  -- The connection that is out may have been notified: nothing was read or written.
  pub stands_out : {L : Type 0} {T : Type 0} {w : Warrants T} {g : Ghosts Acting T} (place : L → Place)
      (sight : L → Sight) (was : SeatAt) (source : SourceFlow) (session : Session T Acting w g) (now : SlotState L)
      (line line' : L)
      (begun : Bool) → now ≡ slot_state.Out line begun → place line' ≡ place line → sight line' ≡ sight line
      → SeatHolds place sight shards rules may_answer was source session now
      → SeatHolds place sight shards rules may_answer was source session (slot_state.Out line' begun)
  stands_out {L} place sight was source session now line line' false is placed same stands =
      let P : SlotState L → Type 0 = λ p. SeatHolds place sight shards rules may_answer was source session p in
      let A : Place → Type 0 = λ at. SeatBegins shards rules may_answer was source at (sight line) session in
      let S : Sight → Type 0 = λ seen. SeatBegins shards rules may_answer was source (place line') seen session in
      subst S (sym same) (subst A (sym placed) (subst P is stands))
  stands_out {L} place sight was source session now line line' true is placed same stands =
      let P : SlotState L → Type 0 = λ p. SeatHolds place sight shards rules may_answer was source session p in
      let A : Place → Type 0 = λ at. SeatServing shards rules may_answer was source at (sight line) session in
      let S : Sight → Type 0 = λ seen. SeatServing shards rules may_answer was source (place line') seen session in
      subst S (sym same) (subst A (sym placed) (subst P is stands))

  -- The connection that is out was served by one more step.
  pub serves_on : {T C : Type 0} {w : Warrants T} {g : Ghosts C T} (was : SeatAt) (source : SourceFlow)
      (place place' : Place) (now now' : Sight) (session session' : Session T C w g)
      → ((begin : Sight) (before : Ends Near) → IsServingLine shards rules may_answer begin now before session
      → IsServingLine shards rules may_answer begin now' before session')
      → ((rules : Rules) (begin : Sight) → IsLineAt rules place begin session → IsLineAt rules place' begin session')
      → SeatServing shards rules may_answer was source place now session
      → SeatServing shards rules may_answer was source place' now' session'
  serves_on was source place place' now now' session session' goes stays holds = record {
    free = holds.free;
    lines = holds.lines;
    before = holds.before;
    begin = holds.begin;
    ends = holds.ends;
    passed = holds.passed;
    next = holds.next;
    came = holds.came;
    lines_are = holds.lines_are;
    width = holds.width;
    serving = goes holds.begin holds.ends holds.serving;
    line = stays rules holds.begin holds.line;
  }

  -- the connection is served over equal ends, those of the renewed session
  abbrev renewed : (begin now : Sight) (before ends ends' : Ends Near) (conn : Conn) (commands : ℕ) (broke : Bool)
      → ends' ≡ ends → LineServed shards rules may_answer begin now before ends conn commands broke
      → LineServed shards rules may_answer begin now before ends' conn commands broke
  renewed begin now before ends ends' conn commands broke same served = record {
    flow = served.flow;
    shards_is = served.shards_is;
    rules_are = served.rules_are;
    conn_is = served.conn_is;
    over = served.over;
    out = served.out;
    received = served.received;
    exchanges = rw same served.exchanges;
    serves = served.serves;
    story = served.story;
    moments = served.moments;
    counted = served.counted;
    reads = served.reads;
    complete = served.complete;
    rest = served.rest;
  }

  -- The connection that was out was served and returned. Each reply answered its piece, so the session is renewed.
  module _ {T : Type 0} {w : Warrants T} {g : Ghosts Acting T} (was : SeatAt) (source source' : SourceFlow)
      (place place' : Place) (now now' : Sight) (commands : ℕ) (broke another : Bool)
      (session session' last : Session T Acting w g) (keeps : g.keeps)
      (goes : (begin : Sight) (before : Ends Near) → IsServingLine shards rules may_answer begin now before session
      → HasServed shards rules may_answer begin now' before session' commands broke)
      (back : source' ≡ took_back now' commands broke source) (renews : Renews another session' last)
      (stays : (rules : Rules) (begin : Sight) → IsLineAt rules place begin session
      → IsLineAt rules place' begin session')
      (same : session_history last ≡ session_history session')
      (holds : SeatServing shards rules may_answer was source place now session) where
    -- what the connection was served by
    abbrev by : SomeAnd session'.buffered_conn
        (λ buffered_conn. WasServedBy shards rules may_answer holds.begin now' holds.ends session'.shard_link
        buffered_conn commands broke)
    by =
        some_and session'.buffered_conn
        (λ buffered_conn. WasServedBy shards rules may_answer holds.begin now' holds.ends session'.shard_link
        buffered_conn commands broke) (goes holds.begin holds.ends holds.serving)

    abbrev line : LineFlow
    line = record { begin = holds.begin; now = now'; commands = commands; broke = broke }

    abbrev this : ServesSourceLine shards rules may_answer line holds.ends (seat_ends last)
    this =
        record {
          conn = by.some.conn;
          served =
              renewed holds.begin now' holds.ends (seat_ends session') (seat_ends last) by.some.conn commands broke
              renews.ends by.holds.served;
          fits = by.holds.fits keeps;
        }

    abbrev more : OneMore shards rules may_answer was (seat_at source' (seat_ends last) (seat_clerk last))
    more =
        one_more shards rules may_answer was (seat_at source' (seat_ends last) (seat_clerk last)) holds.lines line
        holds.before source holds.ends holds.free holds.passed holds.next holds.came back holds.lines_are this

    wide : length (seat_ends session').channels ≡ shards
    wide = by.holds.served.exchanges.same.count ∙ holds.width

    another_comes : IsTrue another
    another_comes =
        let served = by.holds.served in
        (renews.when by.some served.flow by.is served.conn_is).1 (served.rest (by.holds.fits keeps), served.over)

    -- The slot is free for its next connection.
    pub serves_another : SeatFree shards rules may_answer was source' last
    serves_another =
        let served = by.holds.served in
        let V : Rules → Type 0 = λ n. IsVacant n served.flow.window last in
        record {
          free = holds.free;
          lines = more.lines;
          passed = more.source;
          lines_are = more.lines_are;
          width = rw renews.ends wide;
          window = served.flow.window;
          vacant =
              subst V served.rules_are
              (renews.vacant another_comes by.some served.flow by.is served.conn_is (served.shards_is ∙ sym wide)
              by.holds.idle by.holds.recorded);
          ruled = same_rules rules session' last same (stays rules holds.begin holds.line).ruled;
        }

  -- A slot that closes has closed one more channel, or none, or has found all of them closed.
  pub closes_on : {L : Type 0} {T : Type 0} {w : Warrants T} {g : Ghosts Acting T} (place : L → Place)
      (sight : L → Sight) (was : SeatAt) (count : ℕ)
      (source : SourceFlow) (old new : Session T Acting w g) (now : SlotState L)
      → ((served : Ends Near) → EndsFirst count served (seat_ends old) → ClosesOn served now (seat_ends new))
      → ((served : Ends Near) → HasRecorded (seat_clerk old) served → HasRecorded (seat_clerk new) served)
      → SeatClosing shards rules may_answer count was source (seat_ends old) (seat_clerk old)
      → SeatHolds place sight shards rules may_answer was source new now
  closes_on place sight was count source old new slot_state.Free closes keeps holds =
      absurd (closes holds.served holds.closed)
  closes_on place sight was count source old new (slot_state.Out out begun) closes keeps holds =
      absurd (closes holds.served holds.closed)
  closes_on place sight was count source old new (slot_state.Closing next) closes keeps holds =
      let serves = holds.serves in
      record {
        served = holds.served;
        serves =
            record {
              lines = serves.lines;
              passed = serves.passed;
              source = serves.source;
              lines_are = serves.lines_are;
              over = serves.over;
            };
        recorded = keeps holds.served holds.recorded;
        closed = closes holds.served holds.closed;
      }
  closes_on place sight was count source old new slot_state.Over closes keeps holds =
      let serves = holds.serves in
      record {
        lines = serves.lines;
        passed = serves.passed;
        source = serves.source;
        served = holds.served;
        lines_are = serves.lines_are;
        recorded = keeps holds.served holds.recorded;
        over = serves.over;
        closed = closes holds.served holds.closed;
      }

  -- A slot that satisfies its invariant may make a step.
  pub can_step : {L : Type 0} {T : Type 0} {w : Warrants T} {g : Ghosts Acting T} (place : L → Place)
      (sight : L → Sight) (was : SeatAt) (source : SourceFlow) (session : Session T Acting w g) (now : SlotState L)
      → SeatHolds place sight shards rules may_answer was source session now
      → CanStep place sight may_answer now session
  can_step place sight was source session slot_state.Free stands = tt
  can_step place sight was source session (slot_state.Out out false) stands = stands.new
  can_step place sight was source session (slot_state.Out out true) stands =
      may_serve shards rules may_answer stands.begin (sight out) stands.ends session.shard_link (place out)
      session.buffered_conn stands.serving stands.line
  can_step place sight was source session (slot_state.Closing count) stands = tt
  can_step place sight was source session slot_state.Over stands = tt
