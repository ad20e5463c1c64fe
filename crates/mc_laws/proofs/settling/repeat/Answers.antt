use Rattle.std.proofs.Common.{◌≡◌, ◌+◌, map, subst, arith}
use Rattle.mc_sim.specs.Asked.{event_of}
use Rattle.mc_sim.specs.Runs.{Runs}
use Rattle.mc_laws.specs.Settling.{Works}
use Rattle.mc_laws.proofs.Rounds.{on_err, tried_more, tried_quiet, tried_stops}
use Rattle.mc_laws.proofs.settling.repeat.Goals as goal

pub returns-in_err-run-clause-stopped : goal.returns-in_err-run-clause-stopped
returns-in_err-run-clause-stopped c =
    on_err c.from_residual.result (Works c.args.sim.now c.run.new.self)
    (tried_stops c.args.sim.now c.loop.sim c.run.new.self (map event_of c.args.events.now) c.loop.counter
    c.loop.invariant c.in_err-run.ensures.stopped c.requires)

pub returns-then-branch-eq0-clause-repeated : goal.returns-then-branch-eq0-clause-repeated
returns-then-branch-eq0-clause-repeated c =
    let none : c.in_ok-run.field-0 ≡ 0 = c.if-branch-eq0.true in
    tried_quiet c.args.sim.now c.loop.sim c.run.new.self (map event_of c.args.events.now) c.loop.counter
    c.loop.invariant (subst (λ done. Runs c.loop.sim (map event_of c.args.events.now) done c.run.new.self) none
    c.in_ok-run.ensures.ran)

pub loop-preserved : goal.loop-preserved
loop-preserved c =
    let some = c.if-branch-eq0.false in
    tried_more c.args.sim.now c.loop.sim c.run.new.self (map event_of c.args.events.now) c.loop.counter
    (c.loop.counter + 1) c.in_ok-run.field-0 c.loop.invariant c.in_ok-run.ensures.ran (omega (arith, some))
