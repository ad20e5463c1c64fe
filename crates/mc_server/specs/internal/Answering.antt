-- How the shards of one line answer its commands.
use Rattle.std.specs.Prelude.{ℕ, ◌≡◌, ◌<◌, Bool, List, length, map, take, Some}
use Rattle.std.specs.List.{AllByRecursion, slice_get}
use Rattle.mc_sizes.specs.Sizes.{rules_of}
use Rattle.mc_sizes.specs.declared.sizes.Sizes.{Sizes}
use Rattle.mc_ring.specs.Reply.{Shown}
use Rattle.mc_split.specs.declared.plan.Piece.{Piece}
use Rattle.mc_store.specs.declared.shard.Shard.{Shard}
use Rattle.mc_store.specs.State.{State}
use Rattle.mc_store.specs.Shard.{IsShard}
use Rattle.mc_conn.specs.declared.conn.Conn.{Conn}
use Rattle.mc_conn.specs.Conn.{IsConn}
use Rattle.mc_conn.specs.Fits.{Fits}
use Rattle.mc_conn.specs.Flow.{KeepsHanded, Flow, all_pieces}
use Rattle.mc_model.specs.Log.{Entry, Leaves}
use Rattle.mc_history.specs.Tokens.{Acting}
use Rattle.mc_transport.specs.Place.{Place}
use Rattle.mc_wire.specs.Sink.{Sight}
use Rattle.mc_server.specs.declared.line_history.LineHistory.{LineHistory}
use Rattle.mc_server.specs.internal.Recording.{IsWhole, replies_on}

-- Each shard is what its part of the log leads to, from the empty state.
abbrev pub Backs : Sizes → List Shard → List Entry → Type 0
Backs sizes shards log =
    (shard : ℕ) (kept : Shard) → slice_get shards shard ≡ Some kept → (state : State) × Leaves sizes shard log state
    × IsShard kept state

-- the piece of an entry, with its shard
abbrev pub piece_in : Entry → ℕ × Piece
piece_in entry = (entry.shard, entry.piece)

-- The shards ran the pieces that are out, for the one line, and their answers were accepted.
pub record ShardsAnswered (sizes : Sizes) (flow : Flow) (shards : List Shard) (log : List Entry) : Type 0 where
  pub some : 0 < sizes.shards
  pub same : flow.shards ≡ sizes.shards
  pub rules_are : flow.rules ≡ rules_of sizes
  pub count : length shards ≡ sizes.shards
  pub backs : Backs sizes shards log
  pub mine : AllByRecursion (λ entry. entry.asker ≡ 0) log
  pub ran : map piece_in log ≡ take flow.out (all_pieces flow)
  pub fits : Fits flow.shards flow.taken flow.accepted (replies_on log)

-- what is known before pieces are run
pub record CanAnswer (conn : Conn) (shards : List Shard) (history : LineHistory) : Type 0 where
  pub sizes : Sizes
  pub place : Place
  pub begin : Sight
  pub flow : Flow
  pub log : List Entry
  pub conn_is : IsConn conn flow
  pub answers : ShardsAnswered sizes flow shards log
  pub recorded : IsWhole sizes place begin flow.taken log history.clerk history.recorders.items

-- The first `out` pieces have been sent, and all of them were run and answered.
pub record AnswersMore (sizes : Sizes) (flow : Flow) (conn : Conn) (shards : List Shard) : Type 0 where
  pub out : ℕ
  pub lent : Bool
  pub accepted : List Shown
  pub log : List Entry
  pub conn_is : IsConn conn (record flow { out = out; lent = lent; accepted = accepted })
  pub answers : ShardsAnswered sizes (record flow { out = out; lent = lent; accepted = accepted }) shards log
  pub handed : KeepsHanded flow (record flow { out = out; lent = lent; accepted = accepted })

-- And they are recorded in the line's history.
pub record RecordsMore (sizes : Sizes) (place : Place) (begin : Sight) (flow : Flow) (conn : Conn)
    (shards : List Shard) (clerk : Acting) (recorders : List Acting) : Type 0 where
  pub more : AnswersMore sizes flow conn shards
  pub recorded : IsWhole sizes place begin flow.taken more.log clerk recorders

-- Whatever the shards had answered before, they answered the rest of what is due, and it is recorded.
abbrev pub AnswersAll : Conn → List Shard → LineHistory → Conn → List Shard → LineHistory → Type 0
AnswersAll old before history new after history' =
    (sizes : Sizes) (place : Place) (begin : Sight) (flow : Flow) (log : List Entry) → IsConn old flow
    → ShardsAnswered sizes flow before log
    → IsWhole sizes place begin flow.taken log history.clerk history.recorders.items →
    (records : RecordsMore sizes place begin flow new after history'.clerk history'.recorders.items)
    × (records.more.out ≡ length (all_pieces flow))
