use Rattle.std.proofs.Common.{rules, length, refl}
use Rattle.std.proofs.lemmas.Option.{slice_get_read}
use Rattle.mc_ring.specs.EndsLaws.{channel_kept, same_ends-trans}
use Rattle.mc_connection_tests.proofs.ring.what_waits_is_counted.Goals as goal

pub beside-requires-2 : goal.beside-requires-2
beside-requires-2 g c =
    let seats = c.in_ok-seats.seats.items in
    let shards = c.in_ok-seats.shards.items in
    let channel = c.in_ok-seats.ensures.made.each_channel 0 0 c.index_mut.result.now c.index_mut-2.result.now
    (slice_get_read seats (length seats) 0 c.index_mut.result.now refl (search rules) c.index_mut.ensures.value)
    (slice_get_read shards (length shards) 0 c.index_mut-2.result.now refl (search rules) c.index_mut-2.ensures.value)
    in
    let seat = same_ends-trans _ _ _ c.beside.ensures.seat (same_ends-trans _ _ _ c.sends.ensures c.sends-2.ensures) in
    let shard = same_ends-trans _ _ _ c.beside.ensures.shard (same_ends-trans _ _ _ c.takes.ensures c.gives.ensures) in
    channel_kept _ _ _ _ seat shard channel
