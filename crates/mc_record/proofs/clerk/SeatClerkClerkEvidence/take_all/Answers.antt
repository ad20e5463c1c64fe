use Rattle.std.proofs.Common.{length, drop, ◌∙◌}
use Rattle.mc_conn.specs.Conn.{taken_by}
use Rattle.mc_record.specs.Clerk.{taken_now}
use Rattle.mc_record.proofs.Clerking.{beyond, same_place, takes_commands}
use Rattle.mc_record.proofs.clerk.SeatClerkClerkEvidence.take_all.Goals as goal

pub returns-clause-opened : goal.returns-clause-opened
returns-clause-opened c = λ keeps.
    let old = c.self.inside.member in
    (takes_commands (drop (length (taken_now old)) (taken_by c.args.conn.now)) old c.take_all.new.self c.self.invariant
    (rw (← c.self.view_is) at (c.requires.opened tt)) c.take_all.ensures.lawful c.take_all.ensures.takes).opened

pub returns-clause-taken : goal.returns-clause-taken
returns-clause-taken c = λ keeps.
    let old = c.self.inside.member in
    let all = beyond (taken_now old) (taken_by c.args.conn.now) (rw (← c.self.view_is) at (c.requires.begins tt))
    (c.requires.may tt) in
    (takes_commands (drop (length (taken_now old)) (taken_by c.args.conn.now)) old c.take_all.new.self c.self.invariant
    (rw (← c.self.view_is) at (c.requires.opened tt)) c.take_all.ensures.lawful c.take_all.ensures.takes).taken_is
    ∙ all.0

pub returns-clause-work : goal.returns-clause-work
returns-clause-work c = λ keeps.
    let old = c.self.inside.member in
    rw (← c.self.view_is) ((takes_commands (drop (length (taken_now old)) (taken_by c.args.conn.now)) old
    c.take_all.new.self c.self.invariant (rw (← c.self.view_is) at (c.requires.opened tt)) c.take_all.ensures.lawful
    c.take_all.ensures.takes).work)

pub returns-clause-answers : goal.returns-clause-answers
returns-clause-answers c =
    let old = c.self.inside.member in
    rw (← c.self.view_is) ((takes_commands (drop (length (taken_now old)) (taken_by c.args.conn.now)) old
    c.take_all.new.self c.self.invariant (rw (← c.self.view_is) at (c.requires.opened tt)) c.take_all.ensures.lawful
    c.take_all.ensures.takes).answers)

pub returns-clause-place : goal.returns-clause-place
returns-clause-place c = λ keeps.
    let old = c.self.inside.member in
    rw (← c.self.view_is) (same_place old c.take_all.new.self c.take_all.ensures.takes.name
    (takes_commands (drop (length (taken_now old)) (taken_by c.args.conn.now)) old c.take_all.new.self c.self.invariant
    (rw (← c.self.view_is) at (c.requires.opened tt)) c.take_all.ensures.lawful c.take_all.ensures.takes).number)
