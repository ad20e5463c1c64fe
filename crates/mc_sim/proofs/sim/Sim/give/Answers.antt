use Rattle.std.proofs.Common.{refl}
use Rattle.mc_sim.proofs.AtRing.{gives, gives_none}
use Rattle.mc_sim.proofs.sim.Sim.give.Goals as goal

pub returns-then-give : goal.returns-then-give
returns-then-give c = gives _ _ c.args.shard (c.if-give.ensures.given refl) refl refl refl

pub returns-else-give : goal.returns-else-give
returns-else-give c = gives_none _ _ c.args.shard (c.if-give.ensures.none refl) refl refl refl
