-- A session and what it serves a line by.
use Rattle.std.proofs.Common.{◌≡◌, ℕ, Option, Some, None, refl, sym, subst}
use Rattle.std.specs.Prelude.{IsSomeAnd}
use Rattle.mc_wire.specs.Sink.{Sight}
use Rattle.mc_ring.specs.Channel.{Near}
use Rattle.mc_ring.specs.Ends.{Ends}
use Rattle.mc_session.specs.declared.shard_link.ShardLink.{ShardLink}
use Rattle.mc_session.specs.declared.session.Session.{Session}
use Rattle.mc_transport.specs.declared.clerk.Clerk.{Ghosts}
use Rattle.mc_transport.specs.declared.warrant.Warrant.{Ghosts as Warrants}
use Rattle.mc_transport.specs.declared.buffered_conn.BufferedConn.{BufferedConn}
use Rattle.mc_transport.specs.declared.buffered_conn.LineStep.{LineStep}
use Rattle.mc_transport.specs.declared.buffered_conn.LineStep.TheVariants as stepped
use Rattle.mc_transport.specs.Place.{Place}
use Rattle.mc_session.specs.Records.{IsLineOf}
use Rattle.mc_session.specs.Service.{IsServedBy, LineSays, ServesSomeLine, WasServedBy}
use Rattle.mc_session.specs.Session.{StepSays}
use Rattle.mc_command.specs.declared.rules.Rules.{Rules}

-- There is something, of which this holds.
pub record SomeAnd {A : Type 0} (o : Option A) (P : A → Type 0) : Type 0 where
  pub some : A
  pub is : o ≡ Some some
  pub holds : P some

-- Where there is something of which this holds, it can be taken out with what holds of it.
pub some_and : {A : Type 0} (o : Option A) (P : A → Type 0) → IsSomeAnd o P → SomeAnd o P
some_and (Some x) P holds = record { some = x; is = refl; holds = holds }
some_and None P holds = absurd holds

-- What holds of a value holds where it is.
pub some_so : {A : Type 0} (o : Option A) (x : A) (P : A → Type 0) → o ≡ Some x → P x → IsSomeAnd o P
some_so {A} o x P is holds = let S : Option A → Type 0 = λ it. IsSomeAnd it P in subst S (sym is) holds

-- What holds of the value that is there holds of the value that it is known to be.
pub some_is : {A : Type 0} (o : Option A) (x : A) (P : A → Type 0) → o ≡ Some x → IsSomeAnd o P → P x
some_is {A} o x P is holds = let S : Option A → Type 0 = λ it. IsSomeAnd it P in subst S is holds

module _ {T C : Type 0} {w : Warrants T} {g : Ghosts C T} where
  -- What a step says of the line is so of the session.
  pub steps_on : (did : LineStep) (shards : ℕ) (rules : Rules) (may_answer : ℕ → Type 0) (begin now : Sight)
      (before : Ends Near) (session : Session T C w g) (buffered_conn : BufferedConn) → session.buffered_conn
      ≡ Some buffered_conn → LineSays did shards rules may_answer begin now before session.shard_link buffered_conn
      → StepSays did shards rules may_answer begin now before session
  steps_on stepped.Did shards rules may_answer begin now before session buffered_conn is says =
      some_so session.buffered_conn buffered_conn
      (IsServedBy shards rules may_answer begin now before session.shard_link) is says
  steps_on stepped.Waits shards rules may_answer begin now before session buffered_conn is says =
      some_so session.buffered_conn buffered_conn
      (IsServedBy shards rules may_answer begin now before session.shard_link) is says
  steps_on (stepped.Ended served) shards rules may_answer begin now before session buffered_conn is says =
      some_so session.buffered_conn buffered_conn
      (λ it. WasServedBy shards rules may_answer begin now before session.shard_link it served.commands served.broke) is
      says

  -- What is served may be served on.
  pub may_serve : (shards : ℕ) (rules : Rules) (may_answer : ℕ → Type 0) (begin now : Sight) (before : Ends Near)
      (shard_link : ShardLink T C w g) (place : Place) (o : Option BufferedConn)
      → IsSomeAnd o (IsServedBy shards rules may_answer begin now before shard_link)
      → IsLineOf shard_link rules place begin → IsSomeAnd o (ServesSomeLine may_answer place now shard_link)
  may_serve shards rules may_answer begin now before shard_link place (Some buffered_conn) served line = record {
    shards = shards;
    rules = rules;
    begin = begin;
    before = before;
    serves = served;
    line = line;
  }
  may_serve shards rules may_answer begin now before shard_link place None served line = absurd served
