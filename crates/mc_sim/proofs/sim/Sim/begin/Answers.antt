use Rattle.std.proofs.Common.{◌≡◌, ◌<◌, ◌++◌, ◌∷◌, [], length, rules, arith, refl, sym, ap, subst, true, false, Some}
use Rattle.mc_conn.specs.Conn.{IsConn}
use Rattle.mc_conn.specs.Flow.{Flow}
use Rattle.mc_sim.specs.declared.sim.Seat.{Seat}
use Rattle.mc_sim.specs.Feeding.{MayBegin}
use Rattle.mc_sim.proofs.AtSeat.{get_index, same_index}
use Rattle.mc_sim.proofs.Opening.{frees, opens, opens_beyond, opens_not, opens_unkept}
use Rattle.mc_sim.proofs.sim.Sim.begin.Goals as goal

pub returns-then-len-seat : goal.returns-then-len-seat
returns-then-len-seat c =
    let count : c.len.result ≡ length c.args.self.now.seats.items = search rules in
    opens_beyond _ _ c.args.seat (omega (arith, count, c.if-len-seat.true))
    (record { seats = refl; connections = refl; log = refl; rings = refl })

pub returns-then-not-may_begin : goal.returns-then-not-may_begin
returns-then-not-may_begin c =
    let count : c.len.result ≡ length c.args.self.now.seats.items = search rules in
    let below : c.args.seat < length c.args.self.now.seats.items = omega (arith, count, c.if-len-seat.false) in
    opens_not _ _ c.args.seat c.index.result.now (get_index _ _ _ below c.index.ensures)
    (λ flow is may. absurd (let e : true ≡ false = sym ((c.if-not-may_begin.ensures flow is).1 may) in cc))
    (record { seats = refl; connections = refl; log = refl; rings = refl })

pub returns-then-is_err : goal.returns-then-is_err
returns-then-is_err c =
    let count : c.len.result ≡ length c.args.self.now.seats.items = search rules in
    let below : c.args.seat < length c.args.self.now.seats.items = omega (arith, count, c.if-len-seat.false) in
    let same : c.push.new.self.items ≡ c.args.self.now.connections.items = search rules in
    opens_unkept _ _ c.args.seat c.index.result.now (get_index _ _ _ below c.index.ensures)
    (λ flow is. (c.may_begin.ensures flow is).0 c.if-not-may_begin.false)
    (record { seats = refl; connections = same; log = refl; rings = refl })

pub returns : goal.returns
returns c =
    let count : c.len.result ≡ length c.args.self.now.seats.items = search rules in
    let below : c.args.seat < length c.args.self.now.seats.items = omega (arith, count, c.if-len-seat.false) in
    let number : c.len-number.result ≡ length c.args.self.now.connections.items = search rules in
    let pushed : c.push.new.self.items ≡ c.args.self.now.connections.items
    ++ record { seat = c.args.seat; ended = false; broken = false; fed = c.new.result; handed = c.new-2.result } ∷ [] =
    search rules in
    let same : c.index.result.now ≡ c.index_mut-place.result.now =
    same_index _ _ _ _ below c.index.ensures c.index_mut-place.ensures.value in
    let may : (flow : Flow) → IsConn c.index_mut-place.result.now.conn flow
    → MayBegin flow c.index_mut-place.result.now.current = λ flow is.
    subst (λ (x : Seat). MayBegin flow x.current) same
    ((c.may_begin.ensures flow (subst (λ (x : Seat). IsConn x.conn flow) (sym same) is)).0 c.if-not-may_begin.false) in
    let here = get_index _ _ _ below c.index_mut-place.ensures.value in
    opens _ _ c.args.seat c.index_mut-place.result.now
    (record { conn = c.renew.new.self; current = Some c.len-number.result })
    (record { seat = c.args.seat; ended = false; broken = false; fed = c.new.result; handed = c.new-2.result }) here
    (frees c.args.self.now c.args.seat c.index_mut-place.result.now c.renew.new.self c.renew.result here may
    c.renew.ensures.when c.renew.ensures.new c.renew.ensures.same)
    (ap (λ n. Some n) number) refl pushed refl refl refl c.new.ensures.items c.new-2.ensures.items refl refl
