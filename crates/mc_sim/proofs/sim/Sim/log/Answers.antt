use Rattle.std.proofs.Common.{◌∙◌}
use Rattle.mc_sim.proofs.SimViews.{log_shown}
use Rattle.mc_sim.proofs.sim.Sim.log.Goals as goal

pub returns : goal.returns
returns c sizes w stands = c.deref.ensures.value ∙ log_shown sizes c.args.self.now w stands
