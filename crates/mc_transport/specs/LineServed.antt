-- What a seat did while it served a line over its channels, and what became of the line: by its own ends alone,
-- whatever the shards sent.
use Rattle.std.specs.Prelude.{ℕ, ◌≡◌, ◌<◌, Bool, List, ◌++◌, length, map}
use Rattle.std.specs.List.{AllByRecursion}
use Rattle.mc_wire.specs.Sink.{Sight}
use Rattle.mc_ring.specs.declared.request.Request.TheVariants.{Piece}
use Rattle.mc_ring.specs.Reply.{Shown}
use Rattle.mc_ring.specs.Channel.{Near}
use Rattle.mc_ring.specs.Ends.{AreSameEnds, Ends, received_on, sent_on}
use Rattle.mc_conn.specs.declared.conn.Conn.{Conn}
use Rattle.mc_conn.specs.Conn.{IsConn}
use Rattle.mc_conn.specs.Due.{due}
use Rattle.mc_conn.specs.Fits.{KeysFit, Serves}
use Rattle.mc_conn.specs.Flow.{IsAtRest, IsOver, Flow, all_pieces, all_texts, commands_of}
use Rattle.mc_transport.specs.Reads.{ReadsOwingNothing}
use Rattle.mc_transport.specs.Story.{Story}
use Rattle.mc_command.specs.declared.rules.Rules.{Rules}

-- On each channel of the seat just the pieces that were due at its shard were sent, in order, and as many replies
-- received.
pub record Exchanges (before after : Ends Near) (flow : Flow) (received : ℕ → List Shown) : Type 0 where
  pub same : AreSameEnds before after
  pub sent : (shard : ℕ) → shard < flow.shards → sent_on after shard ≡ sent_on before shard
      ++ map Piece (due flow.shards shard flow.taken)
  pub came : (shard : ℕ) → shard < flow.shards → received_on after shard ≡ received_on before shard ++ received shard
  pub answered : (shard : ℕ) → length (received shard) ≡ length (due flow.shards shard flow.taken)

-- The line was served over this number of shards and by these rules: between begin and now it was read and written, and
-- commands is how many commands of it were taken.
pub record LineServed (shards : ℕ) (rules : Rules) (may_answer : ℕ → Type 0) (begin now : Sight)
    (before after : Ends Near) (conn : Conn) (commands : ℕ) (broke : Bool) : Type 0 where
  pub flow : Flow
  pub shards_is : flow.shards ≡ shards
  pub rules_are : flow.rules ≡ rules
  pub conn_is : IsConn conn flow
  pub over : IsOver flow
  pub out : flow.out ≡ length (all_pieces flow)
  pub received : ℕ → List Shown
  pub exchanges : Exchanges before after flow received
  -- Where the keys of the replies are those of the pieces due, the replies accepted are those received.
  pub serves : Serves flow.shards flow.taken flow.accepted received
  pub story : Story flow.rules begin now broke flow.taken (all_texts flow)
  pub moments : AllByRecursion (λ one. may_answer one.moment) flow.taken
  pub counted : commands ≡ length flow.taken
  -- And then it was read only where all replies to the bytes read so far were written out, and each command has its
  -- reply.
  pub reads : KeysFit flow.shards flow.taken received
      → ReadsOwingNothing flow.rules begin now (commands_of flow.taken) (all_texts flow)
  pub complete : KeysFit flow.shards flow.taken received → length (all_texts flow) ≡ length flow.taken
  -- And nothing is under way any more, so that the connection can be renewed.
  pub rest : KeysFit flow.shards flow.taken received → IsAtRest flow
