use Rattle.mc_sim.proofs.Starting.{begins}
use Rattle.mc_sim.proofs.sim.Sim.make.Goals as goal

pub returns : goal.returns
returns g c =
    begins c.args.sizes _ c.requires c.in_ok-seats.ensures.count c.in_ok-seats.ensures.each c.new-2.ensures.items
    c.new-3.ensures.items c.in_ok-rings.ensures
