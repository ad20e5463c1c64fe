-- Whatever was answered before, more of it is now, and is recorded.
use Rattle.std.proofs.Common.{List}
use Rattle.mc_wire.specs.Sink.{Sight}
use Rattle.mc_sizes.specs.declared.sizes.Sizes.{Sizes}
use Rattle.mc_conn.specs.Conn.{IsConn}
use Rattle.mc_conn.specs.Flow.{Flow}
use Rattle.mc_model.specs.Log.{Entry}
use Rattle.mc_transport.specs.Place.{Place}
use Rattle.mc_server.specs.internal.Answering.{ShardsAnswered, RecordsMore}
use Rattle.mc_server.specs.internal.Recording.{IsWhole}
use Rattle.mc_server.proofs.Answering.{unsent_count}
use Rattle.mc_server.proofs.serve.answer.Given as goal

abbrev pub invariant-loop-place : goal.invariant-loop-place
invariant-loop-place l =
    (sizes : Sizes) (place : Place) (begin : Sight) (flow : Flow) (log : List Entry) → IsConn l.fn.conn flow
    → ShardsAnswered sizes flow l.fn.shards.items log
    → IsWhole sizes place begin flow.taken log l.fn.history.clerk l.fn.history.recorders.items
    → RecordsMore sizes place begin flow l.conn l.shards.items l.history.clerk l.history.recorders.items

abbrev pub decreases-loop-place : goal.decreases-loop-place
decreases-loop-place l = unsent_count l.conn
