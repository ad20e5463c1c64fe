use Rattle.std.proofs.Common.{rules, length, refl}
use Rattle.std.proofs.lemmas.Option.{slice_get_read}
use Rattle.mc_serving_tests.proofs.sim.a_worker_takes_no_memory.Goals as goal

pub new-requires-3 : goal.new-requires-3
new-requires-3 g c =
    let shards = c.in-Ok-Ok.shards.items in
    (c.in-Ok-Ok.ensures.made.each_shard 0 c.remove.result
    (slice_get_read shards (length shards) 0 c.remove.result refl (search rules) c.remove.ensures.value)).unused

pub beside-requires : goal.beside-requires
beside-requires g c =
    let seats = c.in-Ok-Ok.seats.items in
    let shards = c.in-Ok-Ok.shards.items in
    rw c.in-Ok-new.ensures.ends (c.in-Ok-Ok.ensures.made.each_channel 0 0 c.index_mut-seat.result.now c.remove.result
    (slice_get_read seats (length seats) 0 c.index_mut-seat.result.now refl (search rules)
    c.index_mut-seat.ensures.value)
    (slice_get_read shards (length shards) 0 c.remove.result refl (search rules) c.remove.ensures.value))
