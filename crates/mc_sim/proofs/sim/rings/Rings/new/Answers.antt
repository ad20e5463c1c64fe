use Rattle.mc_sim.specs.Rings.{AreWired}
use Rattle.mc_sim.proofs.RingsMaking.{new_wired}
use Rattle.mc_sim.proofs.sim.rings.Rings.new.Goals as goal

pub invariant_of-result : goal.invariant_of-result
invariant_of-result g c =
    (new_wired c.args.sizes c.in-Ok.seats.items c.in-Ok.shards.items c.in_ok-workers.workers.items c.in-Ok.ensures.made
    c.in_ok-workers.ensures.ends c.in_ok-workers.ensures.started).laid

pub returns : goal.returns
unfolding AreWired
returns g c =
    new_wired c.args.sizes c.in-Ok.seats.items c.in-Ok.shards.items c.in_ok-workers.workers.items c.in-Ok.ensures.made
    c.in_ok-workers.ensures.ends c.in_ok-workers.ensures.started
