-- How the pieces of a connection go to the shards over the channels of a seat, and how their replies come back.
use Rattle.std.specs.Prelude.{ℕ, ◌≡◌, ◌+◌, ◌<◌, Bool, List, ◌++◌, length, map, take, slice_get, Some}
use Rattle.mc_split.specs.declared.plan.Piece.{Piece}
use Rattle.mc_ring.specs.declared.request.Request.TheVariants as request
use Rattle.mc_ring.specs.Reply.{Shown}
use Rattle.mc_ring.specs.Channel.{Near}
use Rattle.mc_ring.specs.Ends.{AreSameEnds, Ends, received_on, sent_on}
use Rattle.mc_conn.specs.declared.conn.Conn.{Conn}
use Rattle.mc_conn.specs.Conn.{IsConn}
use Rattle.mc_conn.specs.Due.{channel}
use Rattle.mc_conn.specs.Fits.{Serves}
use Rattle.mc_conn.specs.Flow.{KeepsHanded, Flow, all_pieces}
use Rattle.mc_transport.specs.declared.clerk.Clerk.{Ghosts}
use Rattle.mc_transport.specs.declared.warrant.Warrant.{Ghosts as Warrants}
use Rattle.mc_session.specs.Records.{RecordsAllOf, RecordsLineOf}
use Rattle.mc_session.specs.declared.shard_link.ShardLink.{ShardLink}

-- of the pieces that have left the connection those for one shard
abbrev pub sent_to : Flow → ℕ → List Piece
sent_to flow shard = channel shard (take flow.out (all_pieces flow))

-- Since the ends were as before, the pieces that have left the connection were sent, each to its shard, and these
-- replies were received; of the other pieces sent to each shard, as many as under_way says, the replies are awaited.
pub record Carries (before now : Ends Near) (under_way : List ℕ) (flow : Flow) (received : ℕ → List Shown) : Type 0
  where
    pub width : length now.channels ≡ flow.shards
    pub each : length under_way ≡ flow.shards
    pub same : AreSameEnds before now
    pub sent : (shard : ℕ) → shard < flow.shards → sent_on now shard ≡ sent_on before shard
        ++ map request.Piece (sent_to flow shard)
    pub came : (shard : ℕ) → shard < flow.shards → received_on now shard ≡ received_on before shard ++ received shard
    pub awaited : (shard count : ℕ) → slice_get under_way shard ≡ Some count → length (received shard) + count
        ≡ length (sent_to flow shard)
    pub serves : Serves flow.shards flow.taken flow.accepted received

-- what has come in and gone out once the first out pieces have left, and these replies were accepted
abbrev pub carried : Flow → ℕ → Bool → List Shown → Flow
carried flow out lent accepted = record flow { out = out; lent = lent; accepted = accepted }

-- What was received is the beginning of what is received now.
abbrev pub KeepsReceived : (ℕ → List Shown) → (ℕ → List Shown) → Type 0
KeepsReceived received later =
    (shard place : ℕ) (reply : Shown) → slice_get (received shard) place ≡ Some reply → slice_get (later shard) place
    ≡ Some reply

-- what a record may say of a line: by its connection, the replies received, and the ends before it
abbrev pub Recorded : Type 1
Recorded = Ends Near → Flow → (ℕ → List Shown) → Type 0

-- Pieces have left the connection, and replies were accepted, and all of it went over the channels and is as recorded.
pub record CarriesOn (recorded : Recorded) (before : Ends Near) (flow : Flow) (received : ℕ → List Shown)
    (ends : Ends Near) (under_way : List ℕ) (conn : Conn) : Type 0 where
  pub out : ℕ
  pub lent : Bool
  pub accepted : List Shown
  pub later : ℕ → List Shown
  pub conn_is : IsConn conn (carried flow out lent accepted)
  pub carries : Carries before ends under_way (carried flow out lent accepted) later
  pub handed : KeepsHanded flow (carried flow out lent accepted)
  pub kept : KeepsReceived received later
  pub as_recorded : recorded before (carried flow out lent accepted) later

-- what is known before anything is carried
pub record MayCarry (recorded : Recorded) (ends : Ends Near) (under_way : List ℕ) (conn : Conn) : Type 0 where
  pub before : Ends Near
  pub flow : Flow
  pub received : ℕ → List Shown
  pub conn_is : IsConn conn flow
  pub carries : Carries before ends under_way flow received
  pub as_recorded : recorded before flow received

-- Whatever was carried, it goes on, from one record to another; and of what was carried then, this holds.
pub record MovesOn (says : Flow → ℕ → Type 0) (recorded recorded' : Recorded) (ends : Ends Near) (under_way : List ℕ)
    (conn : Conn) (ends' : Ends Near) (under_way' : List ℕ) (conn' : Conn) : Type 0 where
  pub moves : (before : Ends Near) (flow : Flow) (received : ℕ → List Shown) → IsConn conn flow
      → Carries before ends under_way flow received → recorded before flow received →
      (on : CarriesOn recorded' before flow received ends' under_way' conn') × says flow on.out

-- nothing more
abbrev pub AnyOut : Flow → ℕ → Type 0
AnyOut flow out = Unit {0}

-- Every piece has left.
abbrev pub AllOut : Flow → ℕ → Type 0
AllOut flow out = out ≡ length (all_pieces flow)

-- Where this is so, every piece has left.
abbrev pub AllOutWhere : Type 0 → Flow → ℕ → Type 0
AllOutWhere so flow out = so → AllOut flow out

-- No piece has left meanwhile.
abbrev pub NoneOut : Flow → ℕ → Type 0
NoneOut flow out = out ≡ flow.out

module _ {T C : Type 0} {w : Warrants T} {g : Ghosts C T} where
  -- The shard link and the connection carry on, with all that the connection took recorded.
  abbrev pub ShardLinkGoesOn : (Flow → ℕ → Type 0) → ShardLink T C w g → Conn → ShardLink T C w g → Conn → Type 0
  ShardLinkGoesOn says shard_link conn shard_link' conn' =
      MovesOn says (RecordsAllOf shard_link) (RecordsAllOf shard_link') shard_link.ends shard_link.under_way.items conn
      shard_link'.ends shard_link'.under_way.items conn'

  abbrev pub CanCarry : ShardLink T C w g → Conn → Type 0
  CanCarry shard_link conn = MayCarry (RecordsAllOf shard_link) shard_link.ends shard_link.under_way.items conn

  -- The shard link and the connection can carry on once more is recorded: the connection may have taken more than is.
  abbrev pub CanRecord : ShardLink T C w g → Conn → Type 0
  CanRecord shard_link conn = MayCarry (RecordsLineOf shard_link) shard_link.ends shard_link.under_way.items conn
