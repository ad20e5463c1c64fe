use Rattle.mc_sim.proofs.Feeding.{asked}
use Rattle.mc_sim.proofs.sim.at_seat.ask.Goals as goal

pub returns : goal.returns
returns c = asked _ _ _ 0 c.take.result c.take.ensures.says
