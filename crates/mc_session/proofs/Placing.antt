-- A record stays that of the same server and of the same connection.
use Rattle.std.proofs.Common.{◌≡◌, ℕ, refl, sym, ap, ◌∙◌}
use Rattle.mc_wire.specs.Sink.{Sight}
use Rattle.mc_command.specs.declared.rules.Rules.{Rules}
use Rattle.mc_sizes.specs.Sizes.{rules_of}
use Rattle.mc_ring.specs.Route.{Route}
use Rattle.mc_transport.specs.declared.clerk.Clerk.{Ghosts}
use Rattle.mc_transport.specs.declared.warrant.Warrant.{Ghosts as Warrants}
use Rattle.mc_transport.specs.Place.{Place}
use Rattle.mc_session.specs.declared.shard_link.ShardLink.{ShardLink}
use Rattle.mc_session.specs.Records.{IsLineOf, IsRuledBy, KeepsPlace}

-- A clerk with the same channels keeps its record for a server by the same rules.
pub route_rules : {T C : Type 0} (g : Ghosts C T) (clerk clerk' : C) (rules : Rules) → g.route clerk' ≡ g.route clerk
    → (g.keeps → rules ≡ rules_of (g.route clerk 0).name.sizes) → g.keeps
    → rules ≡ rules_of (g.route clerk' 0).name.sizes
route_rules g clerk clerk' rules same ruled keeps =
    let sizes_rules : (ℕ → Route) → Rules = λ r. rules_of (r 0).name.sizes in
    ruled keeps ∙ ap sizes_rules (sym same)

-- An equal clerk's record is of the same history.
pub history_same : {T C : Type 0} (g : Ghosts C T) (clerk clerk' : C) → clerk' ≡ clerk → (g.route clerk' 0).name
    ≡ (g.route clerk 0).name
history_same {T} {C} g clerk clerk' same = ap (λ (one : C). (g.route one 0).name) same

module _ {T C : Type 0} {w : Warrants T} {g : Ghosts C T} where
  -- It keeps what it has.
  pub kept_refl : (one : ShardLink T C w g) → KeepsPlace one one
  kept_refl one = record { route = refl; place = λ keeps. refl }

  -- What is kept from one to the next and then to a third is kept.
  pub kept_then : (one two three : ShardLink T C w g) → KeepsPlace one two → KeepsPlace two three → KeepsPlace one three
  kept_then one two three first second = record {
    route = second.route ∙ first.route;
    place = λ keeps. second.place keeps ∙ first.place keeps;
  }

  -- A clerk that did nothing keeps it too.
  pub kept_same : (one two : ShardLink T C w g) → two.clerk ≡ one.clerk → KeepsPlace one two
  kept_same one two same = record { route = ap g.route same; place = λ keeps. ap g.place same }

  -- A record with the same channels is for a server by the same rules.
  pub ruled_route : (one two : ShardLink T C w g) (rules : Rules) → g.route two.clerk ≡ g.route one.clerk
      → IsRuledBy one rules → IsRuledBy two rules
  ruled_route one two rules same ruled = route_rules g one.clerk two.clerk rules same ruled

  -- It is of the same history.
  pub history_route : (one two : ShardLink T C w g) → g.route two.clerk ≡ g.route one.clerk
      → (g.route two.clerk 0).name ≡ (g.route one.clerk 0).name
  history_route one two same = ap (λ (r : ℕ → Route). (r 0).name) same

  -- So is that of a clerk that comes of an equal one with the same channels.
  pub history_then : (one two three : ShardLink T C w g) → two ≡ one → g.route three.clerk ≡ g.route two.clerk
      → (g.route three.clerk 0).name ≡ (g.route one.clerk 0).name
  history_then one two three same route =
      history_route two three route ∙ history_route one two (ap (λ (k : ShardLink T C w g). g.route k.clerk) same)

  -- An equal clerk's record is for a server by the same rules.
  pub ruled_same : (one two : ShardLink T C w g) (rules : Rules) → two ≡ one → IsRuledBy one rules → IsRuledBy two rules
  ruled_same one two rules same ruled =
      ruled_route one two rules (ap (λ (k : ShardLink T C w g). g.route k.clerk) same) ruled

  -- So its line is the line still.
  pub line_kept : (one two : ShardLink T C w g) (rules : Rules) (place : Place) (begin : Sight) → KeepsPlace one two
      → IsLineOf one rules place begin → IsLineOf two rules place begin
  line_kept one two rules place begin kept line = record {
    ruled = ruled_route one two rules kept.route line.ruled;
    placed = λ keeps. line.placed keeps ∙ ap (λ (p : Sight → Place). p begin) (sym (kept.place keeps));
  }
