-- What a clerk has recorded of the line that a shard link serves. A clerk that keeps no record has nothing to say.
use Rattle.std.specs.Prelude.{ℕ, ◌≡◌, List, map}
use Rattle.mc_wire.specs.Sink.{Sight}
use Rattle.mc_command.specs.declared.rules.Rules.{Rules}
use Rattle.mc_sizes.specs.Sizes.{rules_of}
use Rattle.mc_ring.specs.Ends.{Ends}
use Rattle.mc_ring.specs.Channel.{Near}
use Rattle.mc_ring.specs.Reply.{Shown}
use Rattle.mc_conn.specs.History.{carried_out}
use Rattle.mc_conn.specs.Flow.{Flow}
use Rattle.mc_transport.specs.Clerk.{IsKept}
use Rattle.mc_transport.specs.Place.{Place}
use Rattle.mc_transport.specs.declared.clerk.Clerk.{Ghosts}
use Rattle.mc_transport.specs.declared.warrant.Warrant.{Ghosts as Warrants}
use Rattle.mc_session.specs.Routes.{IsUpToDate}
use Rattle.mc_session.specs.declared.shard_link.ShardLink.{ShardLink}

module _ {T C : Type 0} (g : Ghosts C T) where
  -- A connection is opened, at which this came in and went out, and the record is of it, since the ends were as before.
  abbrev pub RecordsLine : C → Ends Near → Flow → (ℕ → List Shown) → Type 0
  RecordsLine clerk before flow received =
      g.keeps → g.opened clerk × IsKept (g.work clerk) (g.taken clerk) (g.answers clerk) before flow received

  -- And all that the connection took is recorded.
  abbrev pub RecordsAll : C → Ends Near → Flow → (ℕ → List Shown) → Type 0
  RecordsAll clerk before flow received =
      g.keeps → (g.opened clerk × IsKept (g.work clerk) (g.taken clerk) (g.answers clerk) before flow received)
      × (g.taken clerk ≡ map carried_out flow.taken)

  -- No line is served, and the record is of what has passed on the ends.
  abbrev pub RecordsPast : C → Ends Near → Type 0
  RecordsPast clerk ends = g.keeps → IsUpToDate (g.work clerk) (g.answers clerk) ends

module _ {T C : Type 0} {w : Warrants T} {g : Ghosts C T} where
  -- what a shard link's clerk has recorded
  abbrev pub RecordsLineOf : ShardLink T C w g → Ends Near → Flow → (ℕ → List Shown) → Type 0
  RecordsLineOf shard_link = RecordsLine g shard_link.clerk

  abbrev pub RecordsAllOf : ShardLink T C w g → Ends Near → Flow → (ℕ → List Shown) → Type 0
  RecordsAllOf shard_link = RecordsAll g shard_link.clerk

  abbrev pub RecordsPastOf : ShardLink T C w g → Ends Near → Type 0
  RecordsPastOf shard_link = RecordsPast g shard_link.clerk

  -- Where a record is kept, it is of a server by these rules.
  abbrev pub IsRuledBy : ShardLink T C w g → Rules → Type 0
  IsRuledBy shard_link rules = g.keeps → rules ≡ rules_of (g.route shard_link.clerk 0).name.sizes

  -- And the line in this place is that of the last connection in it. It began so.
  pub record IsLineOf (shard_link : ShardLink T C w g) (rules : Rules) (place : Place) (begin : Sight) : Type 0 where
    pub ruled : IsRuledBy shard_link rules
    pub placed : g.keeps → place ≡ g.place shard_link.clerk begin

  -- The record is of the same server, and of the same connection.
  pub record KeepsPlace (old new : ShardLink T C w g) : Type 0 where
    pub route : g.route new.clerk ≡ g.route old.clerk
    pub place : g.keeps → g.place new.clerk ≡ g.place old.clerk
