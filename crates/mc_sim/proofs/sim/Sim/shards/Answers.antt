use Rattle.mc_sim.proofs.SimViews.{wires_there}
use Rattle.mc_sim.proofs.sim.Sim.shards.Goals as goal

pub returns : goal.returns
returns c sizes w stands = let there =
    wires_there sizes c.args.self.now w stands in c.shards.ensures sizes there.0 there.1
