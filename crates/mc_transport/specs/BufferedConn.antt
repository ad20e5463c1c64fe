-- How one line is served, whatever its shards sent.
use Rattle.std.specs.Prelude.{ℕ, ◌≡◌, ◌+◌, ◌<◌, Bool, false, ◌⊎◌, List, [], ◌++◌, length}
use Rattle.std.specs.List.{AllByRecursion, concat}
use Rattle.mc_wire.specs.Sink.{Sight, took, with_bytes}
use Rattle.mc_ring.specs.Reply.{Shown}
use Rattle.mc_conn.specs.declared.conn.Taken.TheVariants as took
use Rattle.mc_conn.specs.Conn.{IsConn}
use Rattle.mc_conn.specs.Conn as conn
use Rattle.mc_conn.specs.History.{Taken}
use Rattle.mc_conn.specs.Flow.{Flow, new_flow, waiting_text}
use Rattle.mc_transport.specs.declared.buffered_conn.BufferedConn.{BufferedConn}
use Rattle.mc_transport.specs.declared.buffered_conn.RestingLine.{RestingLine}
use Rattle.mc_transport.specs.declared.buffered_conn.LineStep.{LineStep}
use Rattle.mc_transport.specs.declared.buffered_conn.LineStep.TheVariants as stepped
use Rattle.mc_transport.specs.Later.{text_in}
use Rattle.mc_transport.specs.Lines.{HasGrown}
use Rattle.mc_transport.specs.internal.Stands.{IsComplete, Serving, handed_texts}
use Rattle.mc_transport.specs.internal.Steps.{IsServed, StopsAt}
use Rattle.mc_command.specs.declared.rules.Rules.{Rules}

-- Nothing was taken of the line, nor read, and no reply waits: nothing is left of an earlier line.
pub record IsNew (shards : ℕ) (rules : Rules) (window : ℕ) (buffered_conn : BufferedConn) : Type 0 where
  pub conn_is : IsConn buffered_conn.conn (new_flow shards rules window)
  pub none_read : buffered_conn.seat.unread ≡ []
  pub none_waits : text_in buffered_conn.unwritten ≡ []
  pub none_taken : buffered_conn.commands ≡ 0

-- The line is being served; it began so and is so now. This came in at its connection and went out, and these replies
-- were received.
pub record IsServing (received : ℕ → List Shown) (may_answer : ℕ → Type 0) (begin now : Sight) (flow : Flow)
    (buffered_conn : BufferedConn) : Type 0 where
  pub conn_is : IsConn buffered_conn.conn flow
  -- by what is seen of the line once it took the replies that wait
  pub serving : Serving received begin (took (text_in buffered_conn.unwritten) now) buffered_conn.seat.unread flow
  pub grown : HasGrown begin now
  pub moments : AllByRecursion (λ one. may_answer one.moment) flow.taken
  pub unbroken : flow.broken ≡ false
  pub counted : buffered_conn.commands ≡ length flow.taken
  -- Of the replies handed out the line took these bytes, and the others wait.
  pub written : List ℕ
  pub written_is : now.taken ≡ with_bytes begin.taken written
  pub in_order : written ++ text_in buffered_conn.unwritten ≡ concat (handed_texts flow)

-- And no further command of it was taken, for the reason that is noted.
pub record HasStopped (received : ℕ → List Shown) (may_answer : ℕ → Type 0) (begin now : Sight) (flow : Flow)
    (buffered_conn : BufferedConn) : Type 0 where
  pub serves : IsServing received may_answer begin now flow buffered_conn
  pub stops : StopsAt buffered_conn.stop flow

-- what has come in and gone out once more bytes were fed, more replies handed out and more commands taken
abbrev pub flow_on : Flow → List ℕ → Bool → ℕ → List Taken → Flow
flow_on flow fed ended handed taken = record flow { fed = fed; ended = ended; handed = handed; taken = taken }

-- It is served on: of the pieces none has left meanwhile, and no reply was accepted.
pub record ServesOn (received : ℕ → List Shown) (may_answer : ℕ → Type 0) (begin now : Sight) (flow : Flow)
    (buffered_conn : BufferedConn) : Type 0 where
  pub fed : List ℕ
  pub ended : Bool
  pub handed : ℕ
  pub taken : List Taken
  pub more : List Taken
  pub taken_is : taken ≡ flow.taken ++ more
  pub stopped : HasStopped received may_answer begin now (flow_on flow fed ended handed taken) buffered_conn

-- The line was served, and this is how many commands of it were taken.
pub record WasServed (received : ℕ → List Shown) (begin now : Sight) (flow : Flow) (broke : Bool) (commands : ℕ)
    (buffered_conn : BufferedConn) : Type 0 where
  pub served : IsServed received begin now flow broke buffered_conn.conn
  pub counted : commands ≡ length flow.taken

-- What a step says of the line.
abbrev pub ServiceSays : LineStep → (ℕ → List Shown) → (ℕ → Type 0) → Sight → Sight → Flow → BufferedConn → Type 0
ServiceSays stepped.Did received may_answer begin now flow buffered_conn =
    ServesOn received may_answer begin now flow buffered_conn
ServiceSays stepped.Waits received may_answer begin now flow buffered_conn =
    ServesOn received may_answer begin now flow buffered_conn
ServiceSays (stepped.Ended served) received may_answer begin now flow buffered_conn =
    WasServed received begin now flow served.broke served.commands buffered_conn

-- Commands of the line were taken, as far as there are any: until more bytes are needed, none comes any more, or the
-- window is full.
pub record TakesAll (received : ℕ → List Shown) (may_answer : ℕ → Type 0) (begin now : Sight) (flow : Flow)
    (buffered_conn : BufferedConn) : Type 0 where
  pub on : ServesOn received may_answer begin now flow buffered_conn
  pub full : buffered_conn.stop ≡ took.Full → length on.taken ≡ flow.handed + flow.window

abbrev pub TakesFor : (ℕ → Type 0) → BufferedConn → BufferedConn → Type 0
TakesFor may_answer old new =
    (received : ℕ → List Shown) (begin now : Sight) (flow : Flow) → IsServing received may_answer begin now flow old
    → TakesAll received may_answer begin now flow new

-- The line is waited for: it has to take replies, or to give more bytes.
abbrev pub WaitsForLine : BufferedConn → Type 0
WaitsForLine buffered_conn = (0 < length (text_in buffered_conn.unwritten)) ⊎ (buffered_conn.stop ≡ took.NeedMore)

-- What going on does, once all commands taken are answered.
abbrev pub GoOnSays : LineStep → (ℕ → Type 0) → BufferedConn → Sight → BufferedConn → Sight → Type 0
GoOnSays did may_answer old before new now =
    (received : ℕ → List Shown) (begin : Sight) (flow : Flow) → HasStopped received may_answer begin before flow old
    → IsComplete received flow → ServiceSays did received may_answer begin now flow new

-- What waits may be written, and then all replies whose turn has come.
pub record MayGoOn (may_write : List ℕ → Type 0) (buffered_conn : BufferedConn) : Type 0 where
  pub flow : Flow
  pub conn_is : IsConn buffered_conn.conn flow
  pub unbroken : flow.broken ≡ false
  pub may : may_write (text_in buffered_conn.unwritten ++ waiting_text flow)

-- The line holds nothing but these numbers: all its commands are answered, its replies are written, no byte of it is
-- unread, and more are needed.
pub record RestsAs (resting : RestingLine) (buffered_conn : BufferedConn) : Type 0 where
  pub conn_rests : conn.RestsAs resting.conn buffered_conn.conn
  pub none_unread : buffered_conn.seat.unread ≡ []
  pub none_waits : text_in buffered_conn.unwritten ≡ []
  pub counted : buffered_conn.commands ≡ resting.commands
  pub stopped : buffered_conn.stop ≡ took.NeedMore

-- The line holds nothing but its numbers.
abbrev pub Rests : BufferedConn → Type 0
Rests buffered_conn = (resting : RestingLine) × RestsAs resting buffered_conn

-- These are the same line for all that contracts say, maybe in other memory.
pub record AreOneLine (was now : BufferedConn) : Type 0 where
  pub conn_is : (flow : Flow) → IsConn was.conn flow → IsConn now.conn flow
  pub unread : now.seat.unread ≡ was.seat.unread
  pub unwritten : text_in now.unwritten ≡ text_in was.unwritten
  pub counted : now.commands ≡ was.commands
  pub stopped : now.stop ≡ was.stop
