use Rattle.std.proofs.Common.{refl, ap, ◌∙◌, List, [], ◌∷◌, ◌++◌}
use Rattle.mc_sim.specs.declared.sim.LogEntry.{LogEntry}
use Rattle.mc_sim.proofs.Popping.{pops, pops_none, pops_unkept}
use Rattle.mc_sim.proofs.sim.Sim.pop.Goals as goal

pub returns-then-not-waits : goal.returns-then-not-waits
returns-then-not-waits c =
    pops_none _ _ c.args.seat c.in-Some.connection c.args.shard c.in-Some.ensures.current
    (λ sizes wires wired. let t = c.if-not-waits.ensures sizes wires wired in (t.none refl, t.now)) refl refl refl

pub returns-then-is_err : goal.returns-then-is_err
returns-then-is_err c =
    pops_unkept _ _ c.args.seat c.in-Some.connection c.args.shard c.in-Some.ensures.current
    (λ sizes wires wired. c.if-not-waits.ensures sizes wires wired) refl refl c.reserve.ensures.items

pub returns-in_default-pop : goal.returns-in_default-pop
returns-in_default-pop c =
    pops_none _ _ c.args.seat c.in-Some.connection c.args.shard c.in-Some.ensures.current
    (λ sizes wires wired.
    let t = c.waits.ensures sizes wires wired in
    let r = c.in_default-pop.ensures.none sizes wires t.now in (r.none, r.now)) refl refl c.reserve.ensures.items

pub returns : goal.returns
returns c =
    pops _ _ c.args.seat c.in-Some.connection c.args.shard c.in-Some-pop.ran c.in-Some.ensures.current
    (λ sizes wires wired. c.in-Some-pop.ensures.ran sizes wires (c.waits.ensures sizes wires wired).now) refl refl
    (c.push_reserved.ensures.items
    ∙ ap (λ (xs : List LogEntry). xs
    ++ record {
      shard = c.args.shard;
      connection = c.in-Some.connection;
      ticket = c.in-Some-pop.ran.ticket;
      part = c.in-Some-pop.ran.part;
      moment = c.in-Some-pop.ran.moment;
    } ∷ []) c.reserve.ensures.items)
