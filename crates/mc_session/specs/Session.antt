-- A seat that serves lines step by step, one after another.
use Rattle.std.specs.Prelude.{ℕ, ◌≡◌, Bool, Option, Some, None, IsSomeAnd, length}
use Rattle.mc_wire.specs.Sink.{Sight}
use Rattle.mc_sizes.specs.Sizes.{rules_of}
use Rattle.mc_ring.specs.Channel.{Near}
use Rattle.mc_ring.specs.Ends.{Ends}
use Rattle.mc_ring.specs.Route.{Name, Route}
use Rattle.mc_transport.specs.declared.clerk.Clerk.{Ghosts}
use Rattle.mc_transport.specs.declared.warrant.Warrant.{Ghosts as Warrants}
use Rattle.mc_transport.specs.declared.buffered_conn.BufferedConn.{BufferedConn}
use Rattle.mc_transport.specs.declared.buffered_conn.LineStep.{LineStep}
use Rattle.mc_transport.specs.declared.buffered_conn.LineStep.TheVariants as stepped
use Rattle.mc_transport.specs.BufferedConn.{IsNew}
use Rattle.mc_transport.specs.Place.{Place}
use Rattle.mc_session.specs.declared.session.Session.{Session}
use Rattle.mc_session.specs.Records.{IsLineOf, IsRuledBy, RecordsPastOf}
use Rattle.mc_session.specs.Serving.{IsIdle}
use Rattle.mc_session.specs.Service.{IsServedBy, ServesSomeLine, WasServedBy}
use Rattle.mc_command.specs.declared.rules.Rules.{Rules}

module _ {T C : Type 0} {w : Warrants T} {g : Ghosts C T} where
  -- The seat's ends of its channels.
  abbrev pub seat_ends : Session T C w g → Ends Near
  seat_ends session = session.shard_link.ends

  -- its clerk
  abbrev pub seat_clerk : Session T C w g → C
  seat_clerk session = session.shard_link.clerk

  -- the routes of its channels, by their shards, as its clerk knows them
  abbrev pub seat_route : Session T C w g → ℕ → Route
  seat_route session = g.route session.shard_link.clerk

  -- the history that its connections are of
  abbrev pub session_history : Session T C w g → Name
  session_history session = (seat_route session 0).name

  -- how many places each of its rings has
  abbrev pub seat_ring : Session T C w g → ℕ
  seat_ring session = session.shard_link.places

  -- The room for a line is as new, or is made for this number of shards, for these rules and with this window.
  abbrev pub IsReady : ℕ → Rules → ℕ → Session T C w g → Option BufferedConn → Type 0
  IsReady shards rules window session None =
      (session.sizes.shards ≡ shards) × (rules_of session.sizes ≡ rules) × (session.sizes.window ≡ window)
  IsReady shards rules window session (Some buffered_conn) = IsNew shards rules window buffered_conn

  -- It serves no line, and may begin to serve one, for these rules and with this window.
  pub record IsVacant (rules : Rules) (window : ℕ) (session : Session T C w g) : Type 0 where
    pub ready : IsReady (length (seat_ends session).channels) rules window session session.buffered_conn
    pub idle : IsIdle session.shard_link.under_way.items
    pub recorded : RecordsPastOf session.shard_link (seat_ends session)

  -- It serves a line, which began so and is so now, since its ends were as before.
  abbrev pub IsServingLine : ℕ → Rules → (ℕ → Type 0) → Sight → Sight → Ends Near → Session T C w g → Type 0
  IsServingLine shards rules may_answer begin now before session =
      IsSomeAnd session.buffered_conn (IsServedBy shards rules may_answer begin now before session.shard_link)

  -- It has served the line, and nothing is under way.
  abbrev pub HasServed : ℕ → Rules → (ℕ → Type 0) → Sight → Sight → Ends Near → Session T C w g → ℕ → Bool → Type 0
  HasServed shards rules may_answer begin now before session commands broke =
      IsSomeAnd session.buffered_conn
      (λ buffered_conn. WasServedBy shards rules may_answer begin now before session.shard_link buffered_conn commands
      broke)

  -- What a step says of the line.
  abbrev pub StepSays : LineStep → ℕ → Rules → (ℕ → Type 0) → Sight → Sight → Ends Near → Session T C w g → Type 0
  StepSays stepped.Did shards rules may_answer begin now before session =
      IsServingLine shards rules may_answer begin now before session
  StepSays stepped.Waits shards rules may_answer begin now before session =
      IsServingLine shards rules may_answer begin now before session
  StepSays (stepped.Ended served) shards rules may_answer begin now before session =
      HasServed shards rules may_answer begin now before session served.commands served.broke

  -- It serves some line, which is so now and in this place.
  abbrev pub MayStep : (ℕ → Type 0) → Place → Sight → Session T C w g → Type 0
  MayStep may_answer place now session =
      IsSomeAnd session.buffered_conn (ServesSomeLine may_answer place now session.shard_link)

  -- Where a record is kept, it is of a server by these rules,
  abbrev pub IsRuled : Rules → Session T C w g → Type 0
  IsRuled rules session = IsRuledBy session.shard_link rules

  -- and the line in this place is that of the last connection in it. It began so.
  abbrev pub IsLineAt : Rules → Place → Sight → Session T C w g → Type 0
  IsLineAt rules place begin session = IsLineOf session.shard_link rules place begin
