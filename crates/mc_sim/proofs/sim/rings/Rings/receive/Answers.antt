use Rattle.std.proofs.Common.{◌<◌, arith}
use Rattle.mc_sim.specs.Laid.{Laid, LooksAt}
use Rattle.mc_sim.proofs.RingsChange.{laid_seat}
use Rattle.mc_sim.proofs.RingsCalls.{out_of, received, received_nothing, receives_out, receives_zero, seat_channels}
use Rattle.mc_sim.proofs.RingsCalls.{seat_read}
use Rattle.mc_sim.proofs.sim.rings.Rings.receive.Goals as goal

pub returns-then-not-has-clause-none : goal.returns-then-not-has-clause-none
returns-then-not-has-clause-none c = receives_out _ c.args.seat c.args.shard (out_of c.if-not-has.ensures)

pub returns-then-waiting-eq0-clause-none : goal.returns-then-waiting-eq0-clause-none
returns-then-waiting-eq0-clause-none c =
    receives_zero _ _ c.args.seat c.args.shard _ _ c.look-waiting.ensures c.if-waiting-eq0.true

pub receive-requires : goal.receive-requires
receive-requires c =
    let mid : Laid = record {
      seats = c.self.inside.seats.items;
      workers = c.self.inside.workers.items;
      places = c.self.inside.places;
    } in
    let look : LooksAt c.args.seat c.args.shard c.args.self.now mid c.look-waiting.result.0 c.look-waiting.result.1 =
    rw c.self.view_is c.look-waiting.ensures in
    seat_channels _ mid c.args.seat c.args.shard _ _ c.index_mut.result.now c.self.invariant look
    (seat_read _ mid c.args.seat c.args.shard _ _ c.index_mut.result.now look c.index_mut.ensures.value)

pub invariant_of-self : goal.invariant_of-self
invariant_of-self c =
    let mid : Laid = record {
      seats = c.self.inside.seats.items;
      workers = c.self.inside.workers.items;
      places = c.self.inside.places;
    } in
    let look : LooksAt c.args.seat c.args.shard c.args.self.now mid c.look-waiting.result.0 c.look-waiting.result.1 =
    rw c.self.view_is c.look-waiting.ensures in
    laid_seat mid c.args.seat c.index_mut.result.now c.receive.new.self c.self.invariant
    (seat_read _ mid c.args.seat c.args.shard _ _ c.index_mut.result.now look c.index_mut.ensures.value)
    c.receive.ensures.same

pub returns-clause-received : goal.returns-clause-received
returns-clause-received c =
    let mid : Laid = record {
      seats = c.self.inside.seats.items;
      workers = c.self.inside.workers.items;
      places = c.self.inside.places;
    } in
    let look : LooksAt c.args.seat c.args.shard c.args.self.now mid c.look-waiting.result.0 c.look-waiting.result.1 =
    rw c.self.view_is c.look-waiting.ensures in
    let some : 0 < c.look-waiting.result.1 = let f = c.if-waiting-eq0.false in omega arith in
    received _ mid c.args.seat c.args.shard _ _ c.index_mut.result.now c.receive.new.self c.receive.result look some
    c.index_mut.ensures.value c.receive.ensures.channel

pub returns-clause-none : goal.returns-clause-none
returns-clause-none c =
    let mid : Laid = record {
      seats = c.self.inside.seats.items;
      workers = c.self.inside.workers.items;
      places = c.self.inside.places;
    } in
    let look : LooksAt c.args.seat c.args.shard c.args.self.now mid c.look-waiting.result.0 c.look-waiting.result.1 =
    rw c.self.view_is c.look-waiting.ensures in
    let some : 0 < c.look-waiting.result.1 = let f = c.if-waiting-eq0.false in omega arith in
    received_nothing _ mid c.args.seat c.args.shard _ _ c.index_mut.result.now c.receive.new.self c.receive.result look
    some c.index_mut.ensures.value c.receive.ensures.channel
