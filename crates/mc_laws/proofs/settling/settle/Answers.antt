use Rattle.std.proofs.Common.{◌≡◌, ◌+◌, ◌-◌, ◌*◌, ◌^◌, ◌∙◌, map, length, true, false, sym, ap, subst, arith}
use Rattle.std.specs.List.{AllByRecursion}
use Rattle.std.proofs.lemmas.List.{length-map}
use Rattle.mc_sim.specs.declared.sim.Connection.{Connection}
use Rattle.mc_sim.specs.Asked.{event_of}
use Rattle.mc_model.specs.World.{Link}
use Rattle.mc_laws.specs.Progress.{IsWork}
use Rattle.mc_laws.specs.Settling.{Works}
use Rattle.mc_laws.specs.internal.Rounds.{Repeats}
use Rattle.mc_laws.proofs.Rounds.{none_settles, on_err, quiet_settles, round_work, tried_again, tried_works}
use Rattle.mc_laws.proofs.settling.settle.Goals as goal

pub repeat-requires : goal.repeat-requires
repeat-requires c =
    subst (AllByRecursion IsWork) (sym (ap (map event_of) c.deref.ensures.value ∙ c.in-Ok.ensures))
    (round_work c.seats.result c.shards.result c.args.moment)

pub returns-in_err-repeat-clause-stopped : goal.returns-in_err-repeat-clause-stopped
returns-in_err-repeat-clause-stopped c =
    let work = subst (AllByRecursion IsWork) (sym c.in-Ok.ensures)
    (round_work c.seats.result c.shards.result c.args.moment) in
    on_err c.from_residual.result (Works c.args.sim.now c.repeat.new.sim)
    (tried_works c.args.sim.now c.loop.sim c.repeat.new.sim (map event_of c.in-Ok.events.items)
    (c.loop.counter * (2 ^ 128 - 1)) c.loop.invariant c.in_err-repeat.ensures.stopped work)

pub returns-then-branch-clause-settled : goal.returns-then-branch-clause-settled
returns-then-branch-clause-settled c =
    let quiet : c.in_ok-repeat.field-0 ≡ true = c.if-branch.true in
    let flow = subst (λ b. Repeats c.loop.sim (map event_of c.deref.result.now) b c.repeat.new.sim) quiet
    c.in_ok-repeat.ensures.repeated in
    let repeats = subst (λ es. Repeats c.loop.sim (map event_of es) true c.repeat.new.sim) c.deref.ensures.value flow in
    quiet_settles c.args.sim.now c.loop.sim c.repeat.new.sim (map event_of c.in-Ok.events.items)
    (c.loop.counter * (2 ^ 128 - 1)) c.seats.result c.shards.result c.args.moment
    c.in-Ok.ensures c.seats.ensures c.shards.ensures c.loop.invariant repeats

pub loop-preserved : goal.loop-preserved
loop-preserved c =
    let more : c.in_ok-repeat.field-0 ≡ false = c.if-branch.false in
    let flow = subst (λ b. Repeats c.loop.sim (map event_of c.deref.result.now) b c.repeat.new.sim) more
    c.in_ok-repeat.ensures.repeated in
    let repeats = subst (λ es. Repeats c.loop.sim (map event_of es) false c.repeat.new.sim) c.deref.ensures.value flow
    in
    tried_again c.args.sim.now c.loop.sim c.repeat.new.sim (map event_of c.in-Ok.events.items)
    (c.loop.counter * (2 ^ 128 - 1)) ((c.loop.counter + 1) * (2 ^ 128 - 1)) c.loop.invariant repeats (omega arith)

pub returns-clause-settled : goal.returns-clause-settled
returns-clause-settled c =
    none_settles c.args.sim.now c.loop.sim (map event_of c.in-Ok.events.items) c.loop.counter c.seats.result
    c.shards.result c.args.moment c.in-Ok.ensures c.seats.ensures c.shards.ensures (λ sizes w stands.
    let past = c.loop-test.false in
    let same = ap length (c.connections-end.ensures.seats sizes w stands) in
    let one = length-map c.connections-end.result.now (λ (x : Connection). x.seat) in
    let two = length-map w.links (λ (x : Link). x.seat) in
    omega (arith, past, same, one, two)) c.loop.invariant
