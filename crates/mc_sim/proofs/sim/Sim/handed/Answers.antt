use Rattle.std.proofs.Common.{◌≡◌, Some, ap, ◌∙◌}
use Rattle.std.specs.List.{slice_get}
use Rattle.mc_sim.proofs.SimViews.{handed_shown, kept_always, kept_is, kept_within}
use Rattle.mc_sim.proofs.sim.Sim.handed.Goals as goal

pub returns-in_err-connection-clause-kept : goal.returns-in_err-connection-clause-kept
returns-in_err-connection-clause-kept c sizes w link stands here =
    absurd (kept_always sizes c.args.self.now w c.args.number link _ stands here c.deref.ensures.value
    c.in_err-connection.ensures.lookup.3)

pub returns-clause-kept : goal.returns-clause-kept
returns-clause-kept c sizes w link stands here =
    let found : slice_get c.args.self.now.connections.items c.args.number ≡ Some c.in_ok-connection.connection.now =
    kept_is c.args.self.now _ c.args.number c.in_ok-connection.connection.now c.deref.ensures.value
    c.in_ok-connection.ensures.lookup.3.0 c.in_ok-connection.ensures.lookup.1 in
    ap (λ bytes. Some bytes)
    (c.deref-2.ensures.value
    ∙ handed_shown sizes c.args.self.now w c.args.number link c.in_ok-connection.connection.now stands here found)

pub returns-clause-within : goal.returns-clause-within
returns-clause-within c sizes w stands =
    kept_within sizes c.args.self.now w c.args.number _ stands c.deref.ensures.value
    c.in_ok-connection.ensures.lookup.3.0
