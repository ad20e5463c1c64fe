-- What is so of a connection stays true where only what its shards were sent and answered has changed.
use Rattle.std.proofs.Common.{◌≡◌, ℕ, Bool, List, take, sym, subst, ◌∙◌, arith}
use Rattle.mc_wire.specs.Sink.{Sight}
use Rattle.mc_ring.specs.Reply.{Shown}
use Rattle.mc_conn.specs.declared.conn.Taken.{Taken as Took}
use Rattle.mc_conn.specs.declared.conn.Taken.TheVariants as took
use Rattle.mc_conn.specs.Fits.{KeysFit}
use Rattle.mc_conn.specs.History.{Taken}
use Rattle.mc_conn.specs.Flow.{KeepsHanded, Flow, all_texts}
use Rattle.mc_transport.specs.internal.Stands.{GaveAndTook}
use Rattle.mc_transport.specs.internal.Steps.{StopsAt}
use Rattle.mc_command.specs.declared.rules.Rules.{Rules}

-- the texts handed out stay those, and stay those again
pub keeps_trans : (flow mid later : Flow) → flow.handed ≡ mid.handed → KeepsHanded flow mid → KeepsHanded mid later
    → KeepsHanded flow later
keeps_trans flow mid later same one two =
    let within = two.within in
    let P : ℕ → Type 0 = λ handed. take handed (all_texts later) ≡ take handed (all_texts mid) in
    record { within = omega (arith, within, same); same = subst P (sym same) two.same ∙ one.same }

-- the texts handed out are the same
pub serving_along : (rules : Rules) (received : ℕ → List Shown) (begin now : Sight) (unread fed : List ℕ) (ended : Bool)
    (shards : ℕ) (taken : List Taken) (texts others : List (List ℕ)) → texts ≡ others
    → GaveAndTook rules (KeysFit shards taken received) begin now unread fed ended taken texts
    → GaveAndTook rules (KeysFit shards taken received) begin now unread fed ended taken others
serving_along rules received begin now unread fed ended shards taken texts others same stands =
    let P : List (List ℕ) → Type 0 =
    λ ts. GaveAndTook rules (KeysFit shards taken received) begin now unread fed ended taken ts in subst P same stands

-- Why no further command was taken is the same.
pub stops_along : (stop : Took) (flow : Flow) (out : ℕ) (lent : Bool) (accepted : List Shown) (handed : ℕ)
    → StopsAt stop flow → StopsAt stop (record flow { out = out; lent = lent; accepted = accepted; handed = handed })
stops_along (took.Opened ticket) flow out lent accepted handed stops = stops
stops_along stop flow out lent accepted handed stops = stops
