use Rattle.std.proofs.Common.{◌≡◌, ◌<◌, length, rules, arith}
use Rattle.mc_sim.proofs.AtSeat.{get_index, no_current, no_kept, no_seat}
use Rattle.mc_sim.proofs.sim.Sim.find.Goals as goal

pub returns-then-len-seat-clause-none : goal.returns-then-len-seat-clause-none
returns-then-len-seat-clause-none c =
    let count : c.len.result ≡ length c.args.self.now.seats.items = search rules in
    no_seat c.args.self.now c.args.seat (omega (arith, count, c.if-len-seat.true))

pub returns-in_err-number-clause-none : goal.returns-in_err-number-clause-none
returns-in_err-number-clause-none c =
    let count : c.len.result ≡ length c.args.self.now.seats.items = search rules in
    let below : c.args.seat < length c.args.self.now.seats.items = omega (arith, count, c.if-len-seat.false) in
    rw c.from_residual.ensures (no_current c.args.self.now c.args.seat c.index.result.now
    (get_index _ _ _ below c.index.ensures) c.in_err-number.was)

pub returns-then-len-number-clause-none : goal.returns-then-len-number-clause-none
returns-then-len-number-clause-none c =
    let count : c.len.result ≡ length c.args.self.now.seats.items = search rules in
    let below : c.args.seat < length c.args.self.now.seats.items = omega (arith, count, c.if-len-seat.false) in
    let kept : c.len-2.result ≡ length c.args.self.now.connections.items = search rules in
    no_kept c.args.self.now c.args.seat c.in_ok-number.number c.index.result.now
    (record { here = get_index _ _ _ below c.index.ensures; current = c.in_ok-number.was })
    (omega (arith, kept, c.if-len-number.true))

pub returns-clause-current : goal.returns-clause-current
returns-clause-current c =
    let count : c.len.result ≡ length c.args.self.now.seats.items = search rules in
    let below : c.args.seat < length c.args.self.now.seats.items = omega (arith, count, c.if-len-seat.false) in
    (c.index.result.now, get_index _ _ _ below c.index.ensures, c.in_ok-number.was)
