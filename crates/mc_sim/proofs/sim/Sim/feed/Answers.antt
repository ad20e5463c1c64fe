use Rattle.std.proofs.Common.{refl, sym, subst, true, false, ◌≡◌}
use Rattle.mc_sim.specs.Feeding.{MayTake}
use Rattle.mc_sim.proofs.AtSeat.{finds_at, get_index, same_index}
use Rattle.mc_sim.proofs.Feeding.{feeds_into, feeds_not}
use Rattle.mc_sim.proofs.sim.Sim.feed.Goals as goal

pub returns-then-not-may_take : goal.returns-then-not-may_take
returns-then-not-may_take c =
    feeds_not _ _ c.args.seat c.in-Some.number c.args.bytes.now c.in-Some.ensures.current c.index.result.now
    (get_index _ _ _ c.in-Some.ensures.kept c.index.ensures)
    (λ may. absurd (let e : true ≡ false = sym (c.if-not-may_take.ensures.1 may) in cc))
    (record { seats = refl; connections = refl; log = refl; rings = refl })

pub returns : goal.returns
returns c =
    feeds_into _ _ c.args.seat c.in-Some.number c.args.bytes.now c.feed_into.result c.index_mut-place.result.now
    (record { conn = c.feed_into.new.conn; current = c.index_mut-place.result.now.current })
    c.index_mut-kept.result.now
    (record {
      seat = c.index_mut-kept.result.now.seat;
      ended = c.index_mut-kept.result.now.ended;
      broken = c.index_mut-kept.result.now.broken;
      fed = c.feed_into.new.fed;
      handed = c.index_mut-kept.result.now.handed;
    })
    (finds_at c.args.self.now c.args.seat c.in-Some.number _ c.in-Some.ensures.seat c.index_mut-place.ensures.value
    c.in-Some.ensures.current)
    (get_index _ _ _ c.in-Some.ensures.kept c.index_mut-kept.ensures.value)
    (subst (λ x. MayTake x c.args.bytes.now)
    (same_index _ _ _ _ c.in-Some.ensures.kept c.index.ensures c.index_mut-kept.ensures.value)
    (c.may_take.ensures.0 c.if-not-may_take.false))
    c.feed_into.ensures refl
    (record {
      differs = record { seats = refl; log = refl; rings = refl };
      connections = refl;
      seat = refl;
      ended = refl;
      broken = refl;
      fed_is = refl;
      handed = refl;
    })
