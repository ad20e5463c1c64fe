-- A connection was opened, and the actor has shown it.
use Rattle.std.proofs.Common.{ℕ, true, sym, ap, ◌∙◌}
use Rattle.mc_transport.specs.Place.{Place, bytes_seen}
use Rattle.mc_history.specs.Tokens.{Acting}
use Rattle.mc_record.specs.Clerk.{place_of}
use Rattle.mc_record.proofs.Clerking.{opens, opens_shown}
use Rattle.mc_record.proofs.clerk.SeatClerkClerkEvidence.open.Goals as goal

pub returns-clause-opened : goal.returns-clause-opened
returns-clause-opened c =
    λ keeps. (opens_shown c.self.inside.member c.add.new.self c.show.new.self c.self.invariant c.add.ensures.lawful
    c.add.ensures.adds c.show.ensures.kept).opened

pub returns-clause-taken : goal.returns-clause-taken
returns-clause-taken c =
    λ keeps. (opens_shown c.self.inside.member c.add.new.self c.show.new.self c.self.invariant c.add.ensures.lawful
    c.add.ensures.adds c.show.ensures.kept).taken

pub returns-clause-work : goal.returns-clause-work
returns-clause-work c =
    rw (← c.self.view_is) ((opens_shown c.self.inside.member c.add.new.self c.show.new.self c.self.invariant
    c.add.ensures.lawful c.add.ensures.adds c.show.ensures.kept).work)

pub returns-clause-answers : goal.returns-clause-answers
returns-clause-answers c =
    rw (← c.self.view_is) ((opens_shown c.self.inside.member c.add.new.self c.show.new.self c.self.invariant
    c.add.ensures.lawful c.add.ensures.adds c.show.ensures.kept).answers)

pub returns-clause-place : goal.returns-clause-place
returns-clause-place c = λ keeps begin.
    let put : ℕ → Place =
    λ k. record { name = c.add.new.self.name; begun = true; number = k; begin = bytes_seen begin } in
    rw c.show.ensures.shown (ap put (opens c.self.inside.member c.add.new.self c.self.invariant c.add.ensures.lawful
    c.add.ensures.adds).number ∙ ap (λ (a : Acting). place_of a begin) (sym c.show.ensures.kept))
