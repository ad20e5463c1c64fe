use Rattle.std.proofs.Common.{◌≡◌, length, rules, arith}
use Rattle.mc_sim.proofs.SimViews.{seats_counted}
use Rattle.mc_sim.proofs.sim.Sim.seats.Goals as goal

pub returns : goal.returns
returns c sizes w stands =
    let counted = seats_counted sizes c.args.self.now w stands in
    let long : c.len.result ≡ length c.args.self.now.seats.items = search rules in
    omega (arith, counted, long)
