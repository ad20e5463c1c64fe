use Rattle.std.proofs.Common.{◌≡◌, Some, ap, ◌∙◌}
use Rattle.std.specs.List.{slice_get}
use Rattle.mc_sim.proofs.SimViews.{fed_shown, kept_always, kept_is, kept_within}
use Rattle.mc_sim.proofs.sim.Sim.fed.Goals as goal

pub returns-in_err-kept-clause-kept : goal.returns-in_err-kept-clause-kept
returns-in_err-kept-clause-kept c sizes w link stands here =
    absurd (kept_always sizes c.args.self.now w c.args.number link _ stands here c.deref.ensures.value
    c.in_err-kept.ensures.lookup.3)

pub returns-clause-kept : goal.returns-clause-kept
returns-clause-kept c sizes w link stands here =
    let found : slice_get c.args.self.now.connections.items c.args.number ≡ Some c.in_ok-kept.kept.now =
    kept_is c.args.self.now _ c.args.number c.in_ok-kept.kept.now c.deref.ensures.value c.in_ok-kept.ensures.lookup.3.0
    c.in_ok-kept.ensures.lookup.1 in
    ap (λ bytes. Some bytes)
    (c.deref-2.ensures.value
    ∙ fed_shown sizes c.args.self.now w c.args.number link c.in_ok-kept.kept.now stands here found)

pub returns-clause-within : goal.returns-clause-within
returns-clause-within c sizes w stands =
    kept_within sizes c.args.self.now w c.args.number _ stands c.deref.ensures.value c.in_ok-kept.ensures.lookup.3.0
