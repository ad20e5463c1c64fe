use Rattle.std.proofs.Common.{rules, length, refl}
use Rattle.std.proofs.lemmas.Option.{slice_get_read}
use Rattle.mc_serving_tests.proofs.worker.two_seats.Goals as goal

pub new-requires-2 : goal.new-requires-2
new-requires-2 c =
    let shards = c.in_ok-seats.shards.items in
    (c.in_ok-seats.ensures.made.each_shard 1 c.remove.result
    (slice_get_read shards (length shards) 1 c.remove.result refl (search rules) c.remove.ensures.value)).unused
