use Rattle.std.proofs.Common.{map, ap, ◌∙◌}
use Rattle.mc_sim.specs.declared.sim.Connection.{Connection}
use Rattle.mc_sim.proofs.SimViews.{broken_shown, ended_shown, seats_shown}
use Rattle.mc_sim.proofs.sim.Sim.connections.Goals as goal

pub returns-clause-seats : goal.returns-clause-seats
returns-clause-seats c sizes w stands =
    ap (map (λ (one : Connection). one.seat)) c.deref.ensures.value ∙ seats_shown sizes c.args.self.now w stands

pub returns-clause-ended : goal.returns-clause-ended
returns-clause-ended c sizes w stands =
    ap (map (λ (one : Connection). one.ended)) c.deref.ensures.value ∙ ended_shown sizes c.args.self.now w stands

pub returns-clause-broken : goal.returns-clause-broken
returns-clause-broken c sizes w stands =
    ap (map (λ (one : Connection). one.broken)) c.deref.ensures.value ∙ broken_shown sizes c.args.self.now w stands
