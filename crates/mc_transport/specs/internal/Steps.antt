-- The steps of a seat, by what came in at its connection and went out.
use Rattle.std.specs.Prelude.{ℕ, ◌≡◌, ◌≤◌, Bool, true, false, List, length}
use Rattle.mc_conn.specs.declared.conn.Conn.{Conn}
use Rattle.mc_conn.specs.declared.conn.Taken.{Taken as Took}
use Rattle.mc_conn.specs.declared.conn.Taken.TheVariants as took
use Rattle.mc_conn.specs.Conn.{IsConn}
use Rattle.mc_ring.specs.Reply.{Shown}
use Rattle.mc_conn.specs.Fits.{KeysFit}
use Rattle.mc_conn.specs.Flow.{Flow, IsAllTaken, IsOver, all_texts, commands_of}
use Rattle.mc_transport.specs.declared.read_side.AfterTurn.{AfterTurn}
use Rattle.mc_transport.specs.declared.read_side.AfterTurn.TheVariants.{Continues, Waits, Ended, Failed}
use Rattle.mc_wire.specs.Sink.{Sight}
use Rattle.mc_transport.specs.internal.Stands.{IsComplete, Serving}
use Rattle.mc_transport.specs.Reads.{ReadsOwingNothing}
use Rattle.mc_transport.specs.Story.{Story}

-- why no further command was taken
abbrev pub StopsAt : Took → Flow → Type 0
StopsAt (took.Opened ticket) flow = ⊥
StopsAt took.NeedMore flow = IsAllTaken flow × (flow.ended ≡ false)
StopsAt took.Full flow = flow.window ≤ length flow.taken
StopsAt took.Closed flow = IsOver flow

-- what has come in and gone out once the replies whose turn has come are handed out
abbrev pub all_handed : Flow → Flow
all_handed flow = record flow { handed = length (all_texts flow) }

-- The connection has the commands taken as before, and more bytes were fed and more replies handed out.
pub record GoesOn (received : ℕ → List Shown) (begin now : Sight) (flow : Flow) (conn : Conn) (unread : List ℕ) : Type 0
  where
    pub fed : List ℕ
    pub ended : Bool
    pub conn_is : IsConn conn (record (all_handed flow) { fed = fed; ended = ended })
    pub serving : Serving received begin now unread (record (all_handed flow) { fed = fed; ended = ended })

-- The replies were handed out, and nothing was read: nothing more came in at the connection.
pub record Rests (received : ℕ → List Shown) (begin now : Sight) (flow : Flow) (conn : Conn) (unread : List ℕ) : Type 0
  where
    pub conn_is : IsConn conn (all_handed flow)
    pub serving : Serving received begin now unread (all_handed flow)

-- The line was served: what became of it, and what came in at its connection and went out.
pub record IsServed (received : ℕ → List Shown) (begin now : Sight) (flow : Flow) (broke : Bool) (conn : Conn) : Type 0
  where
    pub handed : ℕ
    pub conn_is : IsConn conn (record flow { broken = broke; handed = handed })
    pub over : IsOver (record flow { broken = broke; handed = handed })
    -- Of one that didn't fail every command was taken, and every reply handed out.
    pub rest : broke ≡ false → IsAllTaken flow × (handed ≡ length (all_texts flow))
    pub story : Story flow.rules begin now broke flow.taken (all_texts flow)
    pub reads : KeysFit flow.shards flow.taken received
        → ReadsOwingNothing flow.rules begin now (commands_of flow.taken) (all_texts flow)

abbrev pub TurnSays : AfterTurn → (ℕ → List Shown) → Sight → Sight → Flow → Conn → List ℕ → Type 0
TurnSays Continues received begin now flow conn unread = GoesOn received begin now flow conn unread
TurnSays Waits received begin now flow conn unread = Rests received begin now flow conn unread
TurnSays Ended received begin now flow conn unread = IsServed received begin now flow false conn
TurnSays Failed received begin now flow conn unread = IsServed received begin now flow true conn

-- What going on does, once all replies to the commands taken are handed out.
abbrev pub HandedSays : AfterTurn → Took → Conn → List ℕ → Sight → Conn → List ℕ → Sight → Type 0
HandedSays turn stop old unread before new left now =
    (received : ℕ → List Shown) (begin : Sight) (flow : Flow) →
    IsConn old (all_handed flow) → Serving received begin before unread (all_handed flow) → flow.broken ≡ false
    → StopsAt stop (all_handed flow) →
    IsComplete received flow →
    TurnSays turn received begin now flow new left

-- What reading on does, once all replies are handed out and more bytes are needed.
abbrev pub ReadOnSays : AfterTurn → Conn → List ℕ → Sight → Conn → List ℕ → Sight → Type 0
ReadOnSays turn old unread before new left now =
    (received : ℕ → List Shown) (begin : Sight) (flow : Flow) →
    IsConn old (all_handed flow) → Serving received begin before unread (all_handed flow) → IsAllTaken flow → flow.ended
    ≡ false →
    IsComplete received flow →
    TurnSays turn received begin now flow new left

-- What feeding does of what was read, once all replies are handed out.
abbrev pub FeedSays : Conn → List ℕ → Conn → List ℕ → Type 0
FeedSays old unread new left =
    (received : ℕ → List Shown) (begin now : Sight) (flow : Flow) →
    IsConn old (all_handed flow) → Serving received begin now unread (all_handed flow) → flow.ended ≡ false →
    GoesOn received begin now flow new left
