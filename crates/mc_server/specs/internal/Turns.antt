-- What holds between the turns of a line that is served without threads.
use Rattle.std.specs.Prelude.{ℕ, List}
use Rattle.mc_wire.specs.Sink.{Sight}
use Rattle.mc_sizes.specs.declared.sizes.Sizes.{Sizes}
use Rattle.mc_store.specs.declared.shard.Shard.{Shard}
use Rattle.mc_conn.specs.Flow.{Flow}
use Rattle.mc_model.specs.Log.{Entry}
use Rattle.mc_transport.specs.declared.buffered_conn.BufferedConn.{BufferedConn}
use Rattle.mc_transport.specs.BufferedConn.{HasStopped}
use Rattle.mc_transport.specs.Place.{Place}
use Rattle.mc_history.specs.Tokens.{Acting}
use Rattle.mc_server.specs.internal.Answering.{ShardsAnswered}
use Rattle.mc_server.specs.internal.Recording.{IsHistoryOf, replies_on}

pub record Turns (sizes : Sizes) (may_answer : ℕ → Type 0) (place : Place) (begin now : Sight)
    (buffered_conn : BufferedConn) (shards : List Shard) (clerk : Acting) (recorders : List Acting) : Type 0 where
  pub flow : Flow
  pub log : List Entry
  pub answers : ShardsAnswered sizes flow shards log
  pub recorded : IsHistoryOf sizes place begin flow.taken log clerk recorders
  pub stopped : HasStopped (replies_on log) may_answer begin now flow buffered_conn
