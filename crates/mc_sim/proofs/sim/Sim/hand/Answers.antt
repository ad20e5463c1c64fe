use Rattle.std.proofs.Common.{refl, subst, arith, ◌<◌, ◌≡◌}
use Rattle.mc_conn.specs.Conn.{IsConn}
use Rattle.mc_sim.specs.declared.sim.Seat.{Seat}
use Rattle.mc_sim.proofs.AtSeat.{finds_at, get_index, same_index}
use Rattle.mc_sim.proofs.Handing.{hands, hands_none}
use Rattle.mc_sim.proofs.sim.Sim.hand.Goals as goal

pub returns-then-passes-eq0 : goal.returns-then-passes-eq0
returns-then-passes-eq0 c =
    hands_none _ _ c.args.seat c.in-Some.number c.passes.result c.index.result.now
    (finds_at c.args.self.now c.args.seat c.in-Some.number _
    c.in-Some.ensures.seat c.index.ensures c.in-Some.ensures.current)
    c.passes.ensures.whole c.if-passes-eq0.true (record { seats = refl; connections = refl; log = refl; rings = refl })

pub returns : goal.returns
returns c =
    let same : c.index_mut-place.result.now ≡ c.index.result.now =
    same_index _ _ _ _ c.in-Some.ensures.seat c.index_mut-place.ensures.value c.index.ensures in
    let some : 0 < c.passes.result = omega (arith, c.if-passes-eq0.false) in
    hands _ _ c.args.seat c.in-Some.number c.hand_out.result c.index_mut-place.result.now
    (record { conn = c.hand_out.new.conn; current = c.index_mut-place.result.now.current })
    c.index_mut-kept.result.now
    (record {
      seat = c.index_mut-kept.result.now.seat;
      ended = c.index_mut-kept.result.now.ended;
      broken = c.index_mut-kept.result.now.broken;
      fed = c.index_mut-kept.result.now.fed;
      handed = c.hand_out.new.handed;
    })
    c.passes.result
    (finds_at c.args.self.now c.args.seat c.in-Some.number _ c.in-Some.ensures.seat c.index_mut-place.ensures.value
    c.in-Some.ensures.current)
    (get_index _ _ _ c.in-Some.ensures.kept c.index_mut-kept.ensures.value) some
    (λ flow is. c.passes.ensures.whole flow (subst (λ (x : Seat). IsConn x.conn flow) same is))
    (λ flow is. c.passes.ensures.broken flow (subst (λ (x : Seat). IsConn x.conn flow) same is))
    c.hand_out.ensures refl (record { seats = refl; log = refl; rings = refl }) refl refl refl refl refl
