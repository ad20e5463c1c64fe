use Rattle.std.proofs.Common.{◌<◌, length, refl}
use Rattle.std.proofs.lemmas.Option.{slice_get_read}
use Rattle.mc_sim.proofs.RingsChange.{laid_seat, laid_worker}
use Rattle.mc_sim.proofs.sim.rings.Rings.look.Goals as goal

pub beside-requires : goal.beside-requires
beside-requires c =
    let seats = c.self.inside.seats.items in
    let workers = c.self.inside.workers.items in
    let seat_in : c.args.seat < length seats = rw (← c.self.view_is) at c.requires.0 in
    let shard_in : c.args.shard < length workers = rw (← c.self.view_is) at c.requires.1 in
    c.self.invariant.each_channel c.args.seat c.args.shard c.index_mut.result.now c.index_mut-worker.result.now
    (slice_get_read seats (length seats) c.args.seat c.index_mut.result.now refl seat_in c.index_mut.ensures.value)
    (slice_get_read workers (length workers) c.args.shard c.index_mut-worker.result.now refl shard_in
    c.index_mut-worker.ensures.value)

pub invariant_of-self : goal.invariant_of-self
invariant_of-self c =
    let seats = c.self.inside.seats.items in
    let workers = c.self.inside.workers.items in
    let seat_in : c.args.seat < length seats = rw (← c.self.view_is) at c.requires.0 in
    let shard_in : c.args.shard < length workers = rw (← c.self.view_is) at c.requires.1 in
    laid_worker _ c.args.shard c.index_mut-worker.result.now c.beside.new.self
    (laid_seat (record { seats = seats; workers = workers; places = c.self.inside.places })
    c.args.seat c.index_mut.result.now c.beside.new.seat c.self.invariant
    (slice_get_read seats (length seats) c.args.seat c.index_mut.result.now refl seat_in c.index_mut.ensures.value)
    c.beside.ensures.seat)
    (slice_get_read workers (length workers) c.args.shard c.index_mut-worker.result.now refl shard_in
    c.index_mut-worker.ensures.value) c.beside.ensures.keeps

pub returns : goal.returns
returns c =
    let seats = c.self.inside.seats.items in
    let workers = c.self.inside.workers.items in
    let seat_in : c.args.seat < length seats = rw (← c.self.view_is) at c.requires.0 in
    let shard_in : c.args.shard < length workers = rw (← c.self.view_is) at c.requires.1 in
    rw (← c.self.view_is) (record {
      seat = c.index_mut.result.now;
      seat_after = c.beside.new.seat;
      worker_state = c.index_mut-worker.result.now;
      worker_state_after = c.beside.new.self;
      seat_here =
          slice_get_read seats (length seats) c.args.seat c.index_mut.result.now refl seat_in c.index_mut.ensures.value;
      worker_state_here =
          slice_get_read workers (length workers) c.args.shard c.index_mut-worker.result.now refl shard_in
          c.index_mut-worker.ensures.value;
      looked = c.beside.ensures.looked;
      rest = c.beside.ensures.rest;
      set = refl;
    })
