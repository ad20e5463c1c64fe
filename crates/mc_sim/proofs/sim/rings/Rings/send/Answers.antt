use Rattle.std.proofs.Common.{refl, ap}
use Rattle.mc_sim.specs.Laid.{Laid, LooksAt}
use Rattle.mc_sim.proofs.RingsChange.{laid_seat}
use Rattle.mc_sim.proofs.RingsCalls.{keeps_full, keeps_out, never_back, out_of, seat_channels, seat_read, sends_piece}
use Rattle.mc_sim.proofs.sim.rings.Rings.send.Goals as goal

pub returns-then-not-has-clause-kept : goal.returns-then-not-has-clause-kept
returns-then-not-has-clause-kept c = keeps_out _ c.args.seat c.args.shard (out_of c.if-not-has.ensures)

pub returns-then-self-waiting-clause-kept : goal.returns-then-self-waiting-clause-kept
returns-then-self-waiting-clause-kept c =
    keeps_full _ _ c.args.seat c.args.shard _ _ c.self.inside.places
    c.look-waiting.ensures (ap (λ (laid : Laid). laid.places) c.self.view_is) c.if-self-waiting.true

pub send-requires : goal.send-requires
send-requires c =
    let mid : Laid = record {
      seats = c.self.inside.seats.items;
      workers = c.self.inside.workers.items;
      places = c.self.inside.places;
    } in
    let look : LooksAt c.args.seat c.args.shard c.args.self.now mid c.look-waiting.result.0 c.look-waiting.result.1 =
    rw c.self.view_is c.look-waiting.ensures in
    seat_channels _ mid c.args.seat c.args.shard _ _ c.index_mut.result.now c.self.invariant look
    (seat_read _ mid c.args.seat c.args.shard _ _ c.index_mut.result.now look c.index_mut.ensures.value)

pub invariant_of-self : goal.invariant_of-self
invariant_of-self c =
    let mid : Laid = record {
      seats = c.self.inside.seats.items;
      workers = c.self.inside.workers.items;
      places = c.self.inside.places;
    } in
    let look : LooksAt c.args.seat c.args.shard c.args.self.now mid c.look-waiting.result.0 c.look-waiting.result.1 =
    rw c.self.view_is c.look-waiting.ensures in
    laid_seat mid c.args.seat c.index_mut.result.now c.send.new.self c.self.invariant
    (seat_read _ mid c.args.seat c.args.shard _ _ c.index_mut.result.now look c.index_mut.ensures.value)
    c.send.ensures.same

pub returns-in-Err-Piece-clause-kept : goal.returns-in-Err-Piece-clause-kept
returns-in-Err-Piece-clause-kept c sizes wires was =
    let mid : Laid = record {
      seats = c.self.inside.seats.items;
      workers = c.self.inside.workers.items;
      places = c.self.inside.places;
    } in
    let look : LooksAt c.args.seat c.args.shard c.args.self.now mid c.look-waiting.result.0 c.look-waiting.result.1 =
    rw c.self.view_is c.look-waiting.ensures in
    never_back _ _ mid c.args.seat c.args.shard _ _ c.self.inside.places c.index_mut.result.now c.send.new.self
    c.args.piece _ look refl c.if-self-waiting.false c.index_mut.ensures.value c.in-Err-Piece.ensures.channel sizes
    wires was

pub invariant_of-self-2 : goal.invariant_of-self-2
invariant_of-self-2 c =
    let mid : Laid = record {
      seats = c.self.inside.seats.items;
      workers = c.self.inside.workers.items;
      places = c.self.inside.places;
    } in
    let look : LooksAt c.args.seat c.args.shard c.args.self.now mid c.look-waiting.result.0 c.look-waiting.result.1 =
    rw c.self.view_is c.look-waiting.ensures in
    laid_seat mid c.args.seat c.index_mut.result.now c.send.new.self c.self.invariant
    (seat_read _ mid c.args.seat c.args.shard _ _ c.index_mut.result.now look c.index_mut.ensures.value)
    c.send.ensures.same

pub returns-clause-sent : goal.returns-clause-sent
returns-clause-sent c sizes wires was =
    let mid : Laid = record {
      seats = c.self.inside.seats.items;
      workers = c.self.inside.workers.items;
      places = c.self.inside.places;
    } in
    let look : LooksAt c.args.seat c.args.shard c.args.self.now mid c.look-waiting.result.0 c.look-waiting.result.1 =
    rw c.self.view_is c.look-waiting.ensures in
    sends_piece _ mid c.args.seat c.args.shard _ _ c.self.inside.places c.index_mut.result.now c.send.new.self
    c.args.piece c.send.result look refl c.if-self-waiting.false c.index_mut.ensures.value c.send.ensures.channel sizes
    wires was
