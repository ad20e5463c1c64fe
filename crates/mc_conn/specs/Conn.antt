-- What a connection is, by what came in and what went out; and what its calls return.
use Rattle.std.specs.Prelude.{ℕ, ◌≡◌, ◌+◌, ◌<◌, true, false, List, [], None, ◌∷◌, ◌++◌, length, IsTrue}
use Rattle.mc_wire.specs.Sink.{Sight, took}
use Rattle.mc_wire.specs.Sink as sink
use Rattle.mc_reader.specs.Reader.{IsWaiting}
use Rattle.mc_reader.specs.Reader as reader
use Rattle.mc_reader.specs.Spelling.{BeginCommands, is_closed}
use Rattle.mc_reply.specs.declared.server_stats.ServerStats.{ServerStats}
use Rattle.mc_reply.specs.declared.ticket.Ticket.{Ticket}
use Rattle.mc_reply.specs.Server.{shows_server}
use Rattle.mc_join.specs.Held.{held_at_rest}
use Rattle.mc_conn.specs.declared.conn.Conn.{Conn}
use Rattle.mc_conn.specs.declared.conn.Taken.{Taken as Took}
use Rattle.mc_conn.specs.declared.conn.Taken.TheVariants as took
use Rattle.mc_conn.specs.declared.resting.RestingConn.{RestingConn}
use Rattle.mc_conn.specs.History.{Taken, MayBeTaken, planned}
use Rattle.mc_conn.specs.Flow.{Flow, IsAllTaken, IsClosed, IsOver, all_texts, commands_of, handed_text, waiting_text}
use Rattle.mc_conn.specs.internal.Inside.{HasFlow}

-- All this came in at the connection, and all this went out.
unfoldable pub IsConn : Conn → Flow → Type 0
IsConn conn flow = HasFlow conn flow

-- This is so of what came in at the connection and what went out, whatever that is.
abbrev pub IfConn : Conn → (Flow → Type 0) → Type 0
IfConn conn is_so = (flow : Flow) → IsConn conn flow → is_so flow

-- the commands that the connection took, each as it is carried out
unfoldable pub taken_by : Conn → List Taken
taken_by conn = conn.dispatcher.log

-- The connection has just found that it needs more bytes for the next command, and has room for some.
unfoldable pub IsAwaiting : Conn → Type 0
IsAwaiting conn = IsWaiting conn.reader

-- how many bytes a connection holds: those that its reader does
unfoldable pub held_bytes : Conn → ℕ
held_bytes conn = reader.held_bytes conn.reader

-- The bytes that come next are skipped: those that a refused line announced, or a block that memory ran out for.
unfoldable pub SkipsBytes : Conn → Type 0
SkipsBytes conn = reader.IsSkipping conn.reader

-- One command more was taken, at this moment, and by a source that may show this of the server.
pub record TakesCommand (flow : Flow) (moment : ℕ) (may_show : ServerStats → Type 0) (ticket : Ticket) (new : Conn) :
    Type 0 where
  pub one : Taken
  pub moment_is : one.moment ≡ moment
  -- What is shown of the server is what the source answered.
  pub shown : IsTrue (shows_server (planned one)) → may_show one.server
  -- It is given up only where it may be.
  pub may : MayBeTaken one
  -- It is the next command that the bytes fed spell.
  pub next : BeginCommands flow.rules flow.fed (commands_of (flow.taken ++ one ∷ []))
  pub number : ticket.0 ≡ length flow.taken
  pub room : length flow.taken < flow.handed + flow.window
  pub whole : flow.broken ≡ false
  pub now : IsConn new (record flow { taken = flow.taken ++ one ∷ [] })

-- More bytes are needed: all commands were taken, more may come, and the window has room.
pub record NeedsMore (flow : Flow) (new : Conn) : Type 0 where
  pub all : IsAllTaken flow
  pub comes : flow.ended ≡ false
  pub whole : flow.broken ≡ false
  pub goes_on : is_closed (commands_of flow.taken) ≡ false
  pub room : length flow.taken < flow.handed + flow.window
  pub waits : IsAwaiting new
  pub now : IsConn new flow

-- As many commands are open as may be, and the connection is neither closed nor broken.
pub record FillsWindow (flow : Flow) (new : Conn) : Type 0 where
  pub full : length flow.taken ≡ flow.handed + flow.window
  pub whole : flow.broken ≡ false
  pub goes_on : ¬ IsClosed flow
  pub now : IsConn new flow

-- What taking a command answers, and what the connection is then.
abbrev pub TakeSays : Conn → ℕ → (ServerStats → Type 0) → Took → Conn → Type 0
TakeSays old moment may_show (took.Opened ticket) new =
    IfConn old (λ flow. TakesCommand flow moment may_show ticket new)
TakeSays old moment may_show took.NeedMore new = IfConn old (λ flow. NeedsMore flow new)
TakeSays old moment may_show took.Full new = IfConn old (λ flow. FillsWindow flow new)
TakeSays old moment may_show took.Closed new = IfConn old (λ flow. IsOver flow × IsConn new flow)

-- The replies to count commands more were handed out: all whose turn has come.
pub record HandsOut (flow : Flow) (count : ℕ) (new : Conn) (before after : Sight) : Type 0 where
  pub whole : flow.broken ≡ false
  pub all : flow.handed + count ≡ length (all_texts flow)
  pub written : after ≡ took (waiting_text flow) before
  pub now : IsConn new (record flow { handed = flow.handed + count })
  -- With what was handed out before these are all replies whose turn has come, and none waits.
  pub together : handed_text (record flow { handed = flow.handed + count }) ≡ handed_text flow ++ waiting_text flow
  pub none_waits : waiting_text (record flow { handed = flow.handed + count }) ≡ []

-- The sink failed: some reply was due, of these it took a beginning, and the connection is broken.
pub record FailsToHand (flow : Flow) (new : Conn) (before after : Sight) : Type 0 where
  pub whole : flow.broken ≡ false
  pub owed : flow.handed < length (all_texts flow)
  pub cut : sink.BreaksOff (waiting_text flow) before after
  pub now : IsConn new (record flow { broken = true })

-- A broken connection hands out nothing.
pub record StaysSilent (flow : Flow) (count : ℕ) (new : Conn) (before after : Sight) : Type 0 where
  pub none : count ≡ 0
  pub same : after ≡ before
  pub now : IsConn new flow

-- The connection holds nothing but these numbers: no byte is unread, no command is open, no piece is unsent, and it is
-- not broken.
pub record RestsAs (resting : RestingConn) (conn : Conn) : Type 0 where
  pub reads : reader.RestsAs resting.reader conn.reader
  pub replies : conn.dispatcher.reorder_buffer ≡ held_at_rest resting.replies
  pub shards : conn.dispatcher.planner.shards ≡ resting.planner.shards
  pub log : conn.dispatcher.log ≡ resting.log
  pub none_back : conn.put_back ≡ None
  pub none_unsent : conn.dispatcher.unsent.items ≡ []
  pub whole : conn.broken ≡ false
