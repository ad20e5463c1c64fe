-- The theorem about connections over streams, once all threads are joined.
use Rattle.std.specs.Prelude.{ℕ, ◌≡◌, ◌+◌, ◌-◌, ◌^◌, min, List, [], ◌∷◌, Option, Some, None, length, map}
use Rattle.std.specs.List.{AllByRecursion, slice_get}
use Rattle.mc_sizes.specs.declared.sizes.Sizes.{Sizes}
use Rattle.mc_model.specs.Log.{Entry}
use Rattle.mc_history.specs.Tokens.{Sight}
use Rattle.mc_poll.specs.Zips.{Zips}
use Rattle.mc_transport.specs.Explains.{IsLogOfLines}
use Rattle.mc_net.specs.declared.stream.Stream.{Ghosts}
use Rattle.mc_net.specs.declared.stream_source.ClosedConnection.{ClosedConnection}
use Rattle.mc_net.specs.Tcp.{IsServed, gone_lines}
use Rattle.mc_serve.specs.Served.{ExplainsSeat, IsOfHistory}
use Rattle.mc_serve.specs.declared.outcome.Outcome.{Outcome}

-- the connections of each slot, in order
abbrev pub seats_of : {S : Type 0} {g : Ghosts S} → Outcome S g → List (List (ClosedConnection S Sight g × Unit {0}))
seats_of served = map (λ seat. seat.0.items) served.seats.items

-- the number of connections of all slots
abbrev pub how_many : {A : Type 0} → List (List A) → ℕ
how_many [] = 0
how_many (lines ∷ seats) = length lines + how_many seats

-- The connections of a slot were served over exactly the streams that were to come, in order, if these are known;
-- otherwise each over the stream with which it was accepted.
abbrev pub AreServed : {S T : Type 0} {g : Ghosts S} → Option (List S) → List (ClosedConnection S T g × Unit {0}) → Type
    0
AreServed None gone = AllByRecursion (λ one. IsServed one.0.line.value.tap.begin.value one.0) gone
AreServed (Some streams) gone = Zips (λ stream one. IsServed stream one.0) streams gone

-- The report lists all connections that have ended, by slot, and counts them; the count saturates. Each was served from
-- the first byte of its stream. One log, of the history that the evidence shows, explains what was read from the
-- connections, what was written to them and what the shards ran.
pub record ServesConnections {S : Type 0} {g : Ghosts S} (sizes : Sizes) (may_answer : ℕ → Type 0)
    (served : Outcome S g) : Type 0 where
  pub as_many : length (seats_of served) ≡ sizes.seats
  pub counted : served.ended ≡ min (how_many (seats_of served)) (2 ^ 64 - 1)
  pub whole : AllByRecursion (AreServed None) (seats_of served)
  pub log : List Entry
  pub log_is : IsLogOfLines sizes (length (seats_of served)) log
  pub history : IsOfHistory sizes served.evidence log
  pub each : (seat : ℕ) (gone : List (ClosedConnection S Sight g × Unit {0}))
      → slice_get (seats_of served) seat ≡ Some gone
      → ExplainsSeat sizes may_answer log seat (gone_lines gone)
