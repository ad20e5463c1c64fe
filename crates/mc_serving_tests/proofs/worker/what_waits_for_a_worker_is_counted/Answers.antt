use Rattle.std.proofs.Common.{rules, length, refl}
use Rattle.std.proofs.lemmas.Option.{slice_get_read}
use Rattle.mc_ring.specs.EndsLaws.{channel_kept, same_ends-trans}
use Rattle.mc_serving_tests.proofs.worker.what_waits_for_a_worker_is_counted.Goals as goal

pub new-requires-3 : goal.new-requires-3
new-requires-3 g c =
    let shards = c.in_ok-seats.shards.items in
    (c.in_ok-seats.ensures.made.each_shard 0 c.remove.result
    (slice_get_read shards (length shards) 0 c.remove.result refl (search rules) c.remove.ensures.value)).unused

pub beside-requires : goal.beside-requires
beside-requires g c =
    let seats = c.in_ok-seats.seats.items in
    let shards = c.in_ok-seats.shards.items in
    rw c.in_ok-worker.ensures.ends
    (c.in_ok-seats.ensures.made.each_channel 0 0 c.index_mut-seat.result.now c.remove.result
    (slice_get_read seats (length seats) 0 c.index_mut-seat.result.now refl (search rules)
    c.index_mut-seat.ensures.value)
    (slice_get_read shards (length shards) 0 c.remove.result refl (search rules) c.remove.ensures.value))

pub beside-requires-2 : goal.beside-requires-2
beside-requires-2 g c =
    let seats = c.in_ok-seats.seats.items in
    let shards = c.in_ok-seats.shards.items in
    let channel = c.in_ok-seats.ensures.made.each_channel 0 0 c.index_mut-seat.result.now c.remove.result
    (slice_get_read seats (length seats) 0 c.index_mut-seat.result.now refl (search rules)
    c.index_mut-seat.ensures.value)
    (slice_get_read shards (length shards) 0 c.remove.result refl (search rules) c.remove.ensures.value) in
    channel_kept _ _ _ _ (same_ends-trans _ _ _ c.beside.ensures.seat c.sends.ensures) c.beside.ensures.keeps
    (rw c.in_ok-worker.ensures.ends channel)

pub beside-requires-3 : goal.beside-requires-3
beside-requires-3 g c =
    let seats = c.in_ok-seats.seats.items in
    let shards = c.in_ok-seats.shards.items in
    let channel = c.in_ok-seats.ensures.made.each_channel 0 0 c.index_mut-seat.result.now c.remove.result
    (slice_get_read seats (length seats) 0 c.index_mut-seat.result.now refl (search rules)
    c.index_mut-seat.ensures.value)
    (slice_get_read shards (length shards) 0 c.remove.result refl (search rules) c.remove.ensures.value) in
    let seat = same_ends-trans _ _ _ (same_ends-trans _ _ _ c.beside.ensures.seat c.sends.ensures)
    c.beside-2.ensures.seat in
    let shard = same_ends-trans _ _ _ (same_ends-trans _ _ _ c.beside.ensures.keeps c.beside-2.ensures.keeps)
    (same_ends-trans _ _ _ c.turn.ensures c.turn-2.ensures) in
    channel_kept _ _ _ _ seat shard (rw c.in_ok-worker.ensures.ends channel)
