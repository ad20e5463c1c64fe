-- How a seat serves one line, step by step, over its channels.
use Rattle.std.specs.Prelude.{ℕ, ◌≡◌, ◌==◌, Bool, false, List}
use Rattle.std.specs.List.{list_all}
use Rattle.mc_wire.specs.Sink.{Sight}
use Rattle.mc_ring.specs.Reply.{Shown}
use Rattle.mc_ring.specs.Channel.{Near}
use Rattle.mc_ring.specs.Ends.{Ends}
use Rattle.mc_conn.specs.Fits.{KeysFit}
use Rattle.mc_conn.specs.Flow.{Flow}
use Rattle.mc_transport.specs.declared.clerk.Clerk.{Ghosts}
use Rattle.mc_transport.specs.declared.warrant.Warrant.{Ghosts as Warrants}
use Rattle.mc_transport.specs.declared.buffered_conn.BufferedConn.{BufferedConn}
use Rattle.mc_transport.specs.declared.buffered_conn.LineStep.{LineStep}
use Rattle.mc_transport.specs.declared.buffered_conn.LineStep.TheVariants as stepped
use Rattle.mc_transport.specs.LineServed.{LineServed}
use Rattle.mc_transport.specs.BufferedConn.{HasStopped}
use Rattle.mc_transport.specs.Place.{Place}
use Rattle.mc_session.specs.declared.shard_link.ShardLink.{ShardLink}
use Rattle.mc_session.specs.Credit.{IsInCredit}
use Rattle.mc_session.specs.Records.{IsLineOf, RecordsLineOf, RecordsPastOf}
use Rattle.mc_session.specs.Serving.{IsIdle}
use Rattle.mc_session.specs.internal.Carrying.{Carries}
use Rattle.mc_command.specs.declared.rules.Rules.{Rules}

module _ {T C : Type 0} {w : Warrants T} {g : Ghosts C T} where
  -- The line is being served; it began so and is so now, since the ends were as before.
  pub record IsServedBy (shards : ℕ) (rules : Rules) (may_answer : ℕ → Type 0) (begin now : Sight) (before : Ends Near)
      (shard_link : ShardLink T C w g) (buffered_conn : BufferedConn) : Type 0 where
    pub flow : Flow
    pub received : ℕ → List Shown
    pub shards_is : flow.shards ≡ shards
    pub rules_are : flow.rules ≡ rules
    pub carries : Carries before shard_link.ends shard_link.under_way.items flow received
    pub stopped : HasStopped received may_answer begin now flow buffered_conn
    -- To no shard more of its pieces are under way than a ring of replies has places.
    pub credit : IsInCredit shard_link.places before shard_link.ends
    -- Where the clerk keeps a record, it has the connection's commands, and each reply received is the answer to the
    -- piece in its place.
    pub recorded : RecordsLineOf shard_link before flow received

  -- The line was served, and nothing is under way.
  pub record WasServedBy (shards : ℕ) (rules : Rules) (may_answer : ℕ → Type 0) (begin now : Sight) (before : Ends Near)
      (shard_link : ShardLink T C w g) (buffered_conn : BufferedConn) (commands : ℕ) (broke : Bool) : Type 0 where
    pub served : LineServed shards rules may_answer begin now before shard_link.ends buffered_conn.conn commands broke
    pub idle : IsIdle shard_link.under_way.items
    -- Where the clerk keeps a record, it is of what has passed, and each reply received was the answer to the piece in
    -- its place.
    pub recorded : RecordsPastOf shard_link shard_link.ends
    pub fits : g.keeps → KeysFit served.flow.shards served.flow.taken served.received

  -- What a step says of the line.
  abbrev pub LineSays : LineStep → ℕ → Rules → (ℕ → Type 0) → Sight → Sight → Ends Near → ShardLink T C w g
      → BufferedConn → Type 0
  LineSays stepped.Did shards rules may_answer begin now before shard_link buffered_conn =
      IsServedBy shards rules may_answer begin now before shard_link buffered_conn
  LineSays stepped.Waits shards rules may_answer begin now before shard_link buffered_conn =
      IsServedBy shards rules may_answer begin now before shard_link buffered_conn
  LineSays (stepped.Ended served) shards rules may_answer begin now before shard_link buffered_conn =
      WasServedBy shards rules may_answer begin now before shard_link buffered_conn served.commands served.broke

  -- Replies of a shard are awaited.
  abbrev pub AwaitsShards : ShardLink T C w g → Type 0
  AwaitsShards shard_link = list_all (λ count. count == 0) shard_link.under_way.items ≡ false

  -- Some line is being served, which is so now and in this place.
  pub record ServesSomeLine (may_answer : ℕ → Type 0) (place : Place) (now : Sight) (shard_link : ShardLink T C w g)
      (buffered_conn : BufferedConn) : Type 0 where
    pub shards : ℕ
    pub rules : Rules
    pub begin : Sight
    pub before : Ends Near
    pub serves : IsServedBy shards rules may_answer begin now before shard_link buffered_conn
    pub line : IsLineOf shard_link rules place begin
