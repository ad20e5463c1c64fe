-- A line in other memory is served as before.
use Rattle.std.proofs.Common.{◌≡◌, ℕ, length, Option, Some, None, Result, Ok, Err, subst}
use Rattle.std.specs.Prelude.{IfOk, IsSomeAnd}
use Rattle.std.specs.declared.alloc.Global.{Global}
use Rattle.std.specs.declared.boxed.Box.{Box}
use Rattle.mc_wire.specs.Sink.{Sight}
use Rattle.mc_ring.specs.Channel.{Near}
use Rattle.mc_ring.specs.Ends.{Ends}
use Rattle.mc_command.specs.declared.rules.Rules.{Rules}
use Rattle.mc_transport.specs.declared.clerk.Clerk.{Ghosts}
use Rattle.mc_transport.specs.declared.warrant.Warrant.{Ghosts as Warrants}
use Rattle.mc_transport.specs.declared.buffered_conn.BufferedConn.{BufferedConn}
use Rattle.mc_sizes.specs.declared.sizes.Sizes.{Sizes}
use Rattle.mc_sizes.specs.Sizes.{SuitLines, rules_of}
use Rattle.std.proofs.Props.{props}
use Rattle.mc_transport.specs.BufferedConn.{AreOneLine, IsNew}
use Rattle.mc_transport.specs.Place.{Place}
use Rattle.mc_transport.proofs.OneLine.{new_same, stopped_same}
use Rattle.mc_session.specs.declared.shard_link.ShardLink.{ShardLink}
use Rattle.mc_session.specs.declared.session.Session.{Session}
use Rattle.mc_session.specs.Service.{IsServedBy, ServesSomeLine}
use Rattle.mc_session.specs.Session.{IsReady, IsVacant, seat_ends}

-- Where two facts hold of what is there, they hold of one value.
pub both : {A : Type 0} (o : Option A) (P Q : A → Type 0) (R : Type 0) → IsSomeAnd o P → IsSomeAnd o Q
    → ((x : A) → P x → Q x → R) → R
both (Some x) P Q R p q so = so x p q
both None P Q R p q so = absurd p

-- There is one proof at most that sizes suit.
one_proof : (sizes : Sizes) → IsProp (SuitLines sizes)
one_proof sizes = hlevel props

module _ {T C : Type 0} {w : Warrants T} {g : Ghosts C T} where
  -- What is served of a line is so of the same line in other memory.
  pub served_same : (shards : ℕ) (rules : Rules) (may_answer : ℕ → Type 0) (begin now : Sight) (before : Ends Near)
      (shard_link : ShardLink T C w g) (was line : BufferedConn) → AreOneLine was line
      → IsServedBy shards rules may_answer begin now before shard_link was
      → IsServedBy shards rules may_answer begin now before shard_link line
  served_same shards rules may_answer begin now before shard_link was line one serves = record {
    flow = serves.flow;
    received = serves.received;
    shards_is = serves.shards_is;
    rules_are = serves.rules_are;
    carries = serves.carries;
    stopped = stopped_same serves.received may_answer begin now serves.flow was line one serves.stopped;
    credit = serves.credit;
    recorded = serves.recorded;
  }

  -- So is a line of which it is known that it is served.
  pub some_served : (may_answer : ℕ → Type 0) (place : Place) (now : Sight) (shard_link : ShardLink T C w g)
      (was line : BufferedConn) → AreOneLine was line → ServesSomeLine may_answer place now shard_link was
      → ServesSomeLine may_answer place now shard_link line
  some_served may_answer place now shard_link was line one serves = record {
    shards = serves.shards;
    rules = serves.rules;
    begin = serves.begin;
    before = serves.before;
    serves =
        served_same serves.shards serves.rules may_answer serves.begin now serves.before shard_link was line one
        serves.serves;
    line = serves.line;
  }

  -- The first buffers of a vacant seat are new for the lines that it serves,
  pub first_new : (shards : ℕ) (rules : Rules) (window : ℕ) (session : Session T C w g) (o : Option BufferedConn)
      (line : BufferedConn) → o ≡ None → IsReady shards rules window session o
      → IsNew session.sizes.shards (rules_of session.sizes) session.sizes.window line → IsNew shards rules window line
  first_new shards rules window session o line none ready new =
      let at : IsReady shards rules window session None =
      subst (λ (it : Option BufferedConn). IsReady shards rules window session it) none ready in
      subst (λ (it : ℕ). IsNew it rules window line) at.0
      (subst (λ (it : Rules). IsNew session.sizes.shards it window line) at.1
      (subst (λ (it : ℕ). IsNew session.sizes.shards (rules_of session.sizes) it line) at.2 new))

  -- where memory for them was not refused,
  pub first_made : {E : Type 0} (session : Session T C w g) (made : Result (Box BufferedConn Global) E)
      → session.buffered_conn ≡ None
      → IfOk made (λ line. IsNew session.sizes.shards (rules_of session.sizes) session.sizes.window line.value)
      → IfOk made
      (λ line. (rules : Rules) (window : ℕ) → IsVacant rules window session
      → IsNew (length (seat_ends session).channels) rules window line.value)
  first_made session (Ok line) none new = λ rules window vacant.
      first_new (length (seat_ends session).channels) rules window session session.buffered_conn line.value none
      vacant.ready new
  first_made session (Err _) none new = tt

  -- and so are those of a later line.
  pub again_new : (shards : ℕ) (rules : Rules) (window : ℕ) (session : Session T C w g) (o : Option BufferedConn)
      (line : BufferedConn) → IsReady shards rules window session o → IsSomeAnd o (λ was. AreOneLine was line)
      → IsNew shards rules window line
  again_new shards rules window session (Some was) line ready one = new_same shards rules window was line one ready
  again_new shards rules window session None line ready one = absurd one

  -- A seat whose line is new may serve the next.
  pub ready_again : (shards : ℕ) (rules : Rules) (window : ℕ) (session : Session T C w g) (o : Option BufferedConn)
      → IsSomeAnd o (IsNew shards rules window) → IsReady shards rules window session o
  ready_again shards rules window session (Some line) new = new
  ready_again shards rules window session None new = absurd new

  -- A session is the same whatever proves that its sizes suit.
  pub same_session : (session : Session T C w g) (suited : SuitLines session.sizes)
      (ring : session.shard_link.places ≡ session.sizes.ring)
      → record session { suited = suited; ring = ring } ≡ session
  same_session session suited ring =
      let places : IsProp (session.shard_link.places ≡ session.sizes.ring) = hlevel props in
      λ i.
      record session { suited = one_proof session.sizes suited session.suited i; ring = places ring session.ring i }
