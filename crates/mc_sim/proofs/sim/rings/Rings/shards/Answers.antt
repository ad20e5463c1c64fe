use Rattle.std.proofs.Common.{◌≡◌, length, rules, arith, vec_len}
use Rattle.mc_sim.specs.Laid.{Laid}
use Rattle.mc_sim.proofs.SimViews.{shards_counted}
use Rattle.mc_sim.proofs.sim.rings.Rings.shards.Goals as goal

pub returns : goal.returns
returns c =
    let mid : Laid = record {
      seats = c.self.inside.seats.items;
      workers = c.self.inside.workers.items;
      places = c.self.inside.places;
    } in
    let long : vec_len c.self.inside.workers ≡ length c.self.inside.workers.items = search rules in
    let flow = c.len.ensures in
    rw (← c.self.view_is) (λ sizes wires was. let counted = shards_counted sizes mid wires was in
    omega (arith, long, flow, counted))
