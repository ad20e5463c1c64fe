-- The line that came back, as it was when it came in.
use Rattle.mc_net.proofs.single_source.SingleSource.served.Goals as goal
use Rattle.std.proofs.Common.{refl}

pub returns-in-Some : goal.returns-in-Some
returns-in-Some g c = (
  g.L.Transport.sight c.in-Some.returned.begin.value,
  c.args.self.over,
  rw (c.in-Some.is, c.into_served.ensures) refl,
)
