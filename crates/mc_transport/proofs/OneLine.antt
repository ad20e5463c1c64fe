-- A line that rested is the same one for all that contracts say.
use Rattle.std.proofs.Common.{◌≡◌, ℕ, Bool, true, false, Option, Some, None, List, refl, sym, subst, ◌∙◌}
use Rattle.std.proofs.lemmas.Bool.{false≢true}
use Rattle.std.specs.Prelude.{IfNone, IfSome, IsSomeAnd, is_some}
use Rattle.std.specs.declared.alloc.Global.{Global}
use Rattle.std.specs.declared.boxed.Box.{Box}
use Rattle.mc_wire.specs.Sink.{Sight}
use Rattle.mc_ring.specs.Reply.{Shown}
use Rattle.mc_command.specs.declared.rules.Rules.{Rules}
use Rattle.mc_conn.specs.Flow.{Flow, new_flow}
use Rattle.mc_conn.proofs.AtRest.{same_flow}
use Rattle.mc_transport.specs.declared.buffered_conn.BufferedConn.{BufferedConn}
use Rattle.mc_transport.specs.declared.buffered_conn.RestingLine.{RestingLine}
use Rattle.mc_transport.specs.declared.line_buffers.Rest.{Rest}
use Rattle.mc_transport.specs.internal.Resting.{line_in}
use Rattle.mc_transport.specs.BufferedConn.{AreOneLine, HasStopped, IsNew, Rests, RestsAs}

-- Lines that rest with the same numbers are one line,
pub one_line : (resting : RestingLine) (was now : BufferedConn) → RestsAs resting was → RestsAs resting now
    → AreOneLine was now
one_line resting was now a b = record {
  conn_is = same_flow resting.conn was.conn now.conn a.conn_rests b.conn_rests;
  unread = b.none_unread ∙ sym a.none_unread;
  unwritten = b.none_waits ∙ sym a.none_waits;
  counted = b.counted ∙ sym a.counted;
  stopped = b.stopped ∙ sym a.stopped;
}

-- and each line is one with itself.
pub itself : (line : BufferedConn) → AreOneLine line line
itself line = record { conn_is = λ flow is. is; unread = refl; unwritten = refl; counted = refl; stopped = refl }

-- What is served stays served,
pub stopped_same : (received : ℕ → List Shown) (may_answer : ℕ → Type 0) (begin now : Sight) (flow : Flow)
    (was line : BufferedConn) → AreOneLine was line → HasStopped received may_answer begin now flow was
    → HasStopped received may_answer begin now flow line
stopped_same received may_answer begin now flow was line one stopped =
    let serves = stopped.serves in
    record {
      serves = record {
        conn_is = one.conn_is flow serves.conn_is;
        serving = rw (one.unwritten, one.unread) serves.serving;
        grown = serves.grown;
        moments = serves.moments;
        unbroken = serves.unbroken;
        counted = one.counted ∙ serves.counted;
        written = serves.written;
        written_is = serves.written_is;
        in_order = rw one.unwritten serves.in_order;
      };
      stops = rw one.stopped stopped.stops;
    }

-- and what is new stays new.
pub new_same : (shards : ℕ) (rules : Rules) (window : ℕ) (was line : BufferedConn) → AreOneLine was line
    → IsNew shards rules window was → IsNew shards rules window line
new_same shards rules window was line one new = record {
  conn_is = one.conn_is (new_flow shards rules window) new.conn_is;
  none_read = one.unread ∙ new.none_read;
  none_waits = one.unwritten ∙ new.none_waits;
  none_taken = one.counted ∙ new.none_taken;
}

-- Buffers that have become the line at rest are of the line that is seen.
pub resumed : (active : Option (Box BufferedConn Global)) (at_rest : Option Rest) (one : Rest)
    (seen : Option BufferedConn) (line : Option (Box BufferedConn Global)) (found : Bool) → found ≡ is_some active
    → found ≡ false → at_rest ≡ Some one → line_in active at_rest ≡ seen
    → IfSome line (λ it. RestsAs one.line it.value)
    → IfSome line (λ it. IsSomeAnd seen (λ was. AreOneLine was it.value))
resumed None at_rest one seen (Some line) found is none here view rests =
    let S : Option BufferedConn → Type 0 = λ it. IsSomeAnd it (λ was. AreOneLine was line.value) in
    let H : Option Rest → Type 0 = λ it. S (line_in None it) in
    subst S view (subst H (sym here) (one_line one.line one.seen.value line.value one.rests rests))
resumed None at_rest one seen None found is none here view rests = tt
resumed (Some _) at_rest one seen line found is none here view rests = absurd (false≢true (sym none ∙ is))

-- What holds anyway holds where there is no result.
pub if_none : {A : Type 0} (o : Option A) (P : Type 0) → P → IfNone o P
if_none (Some it) P holds = tt
if_none None P holds = holds

-- A line without buffers is at rest,
pub rest_seen : (active : Option (Box BufferedConn Global)) (at_rest : Option Rest) (one : Rest)
    (seen : Option BufferedConn) (found : Bool) → found ≡ is_some active → found ≡ false → at_rest ≡ Some one
    → line_in active at_rest ≡ seen → IfSome seen Rests
rest_seen None at_rest one seen found is none here view =
    let S : Option BufferedConn → Type 0 = λ it. IfSome it Rests in
    let H : Option Rest → Type 0 = λ it. S (line_in None it) in
    subst S view (subst H (sym here) (one.line, one.rests))
rest_seen (Some _) at_rest one seen found is none here view = absurd (false≢true (sym none ∙ is))

-- and where none is there, none is seen.
pub none_seen : (active : Option (Box BufferedConn Global)) (at_rest : Option Rest) (seen : Option BufferedConn)
    (found : Bool) → found ≡ is_some active → found ≡ false → at_rest ≡ None → line_in active at_rest ≡ seen
    → IfSome seen Rests
none_seen None at_rest seen found is none here view =
    let S : Option BufferedConn → Type 0 = λ it. IfSome it Rests in
    let H : Option Rest → Type 0 = λ it. S (line_in None it) in
    subst S view (subst H (sym here) tt)
none_seen (Some _) at_rest seen found is none here view = absurd (false≢true (sym none ∙ is))
