use Rattle.mc_ring.specs.Reply.{shown}
use Rattle.mc_record.proofs.Clerking.{hears_of, hears_reply, same_place}
use Rattle.mc_record.proofs.clerk.SeatClerkClerkEvidence.hear.Goals as goal

pub returns-clause-answers : goal.returns-clause-answers
returns-clause-answers c = λ keeps before may.
    let m = rw (← c.self.view_is) at may in
    (hears_reply c.self.inside.member c.hear.new.self c.args.token c.args.«_shard» before (shown c.args.«_reply».now)
    c.self.invariant c.hear.ensures.lawful c.hear.ensures.sees m).answer

pub returns-clause-fits : goal.returns-clause-fits
returns-clause-fits c = λ keeps before piece may there.
    let m = rw (← c.self.view_is) at may in
    let t = rw (← c.self.view_is) at there in
    (hears_reply c.self.inside.member c.hear.new.self c.args.token c.args.«_shard» before (shown c.args.«_reply».now)
    c.self.invariant c.hear.ensures.lawful c.hear.ensures.sees m).fits piece t

pub returns-clause-grows : goal.returns-clause-grows
returns-clause-grows c =
    rw (← c.self.view_is) ((hears_of c.args.token.events c.self.inside.member c.hear.new.self c.self.invariant
    c.hear.ensures.lawful c.hear.ensures.sees).answers)

pub returns-clause-opened : goal.returns-clause-opened
returns-clause-opened c = λ keeps opened.
    let o = rw (← c.self.view_is) at opened in
    (hears_of c.args.token.events c.self.inside.member c.hear.new.self c.self.invariant c.hear.ensures.lawful
    c.hear.ensures.sees).opened o

pub returns-clause-taken : goal.returns-clause-taken
returns-clause-taken c = λ opened.
    let o = rw (← c.self.view_is) at opened in
    rw (← c.self.view_is) ((hears_of c.args.token.events c.self.inside.member c.hear.new.self c.self.invariant
    c.hear.ensures.lawful c.hear.ensures.sees).taken o)

pub returns-clause-work : goal.returns-clause-work
returns-clause-work c =
    rw (← c.self.view_is) ((hears_of c.args.token.events c.self.inside.member c.hear.new.self c.self.invariant
    c.hear.ensures.lawful c.hear.ensures.sees).work)

pub returns-clause-place : goal.returns-clause-place
returns-clause-place c = λ keeps opened.
    let old = c.self.inside.member in
    let o = rw (← c.self.view_is) at opened in
    rw (← c.self.view_is) (same_place old c.hear.new.self c.hear.ensures.sees.name
    ((hears_of c.args.token.events old c.hear.new.self c.self.invariant c.hear.ensures.lawful
    c.hear.ensures.sees).number o))
