use Rattle.std.proofs.Common.{◌≡◌, w64, rules}
use Rattle.std.proofs.lemmas.Int.{to_z-of_z}
use Rattle.mc_item.specs.Expiry.{expiry_of}
use Rattle.mc_store.specs.Shard.{IsShard, held_of}
use Rattle.mc_store.specs.internal.Parts.{answered}
use Rattle.mc_store.proofs.Stores.{fresh_of, stored_as}
use Rattle.mc_store.proofs.shard.Shard.store_asked.Goals as goal

pub returns-clause-does : goal.returns-clause-does
unfolding IsShard
returns-clause-does c = λ reply state h.
    let time = c.args.self.now.time in
    let expiry : c.from_exptime-expiry.result ≡ expiry_of c.args.asked.exptime time =
    rw (to_z-of_z w64 c.args.asked.exptime (search rules)) at c.from_exptime-expiry.ensures in
    let made : c.fresh_item-item.result
    ≡ fresh_of c.args.asked.value c.args.asked.flags (expiry_of c.args.asked.exptime time) =
    rw (← expiry) c.fresh_item-item.ensures in
    stored_as (held_of c.args.self.now) state c.args.asked c.fresh_item-item.result reply
    (answered reply c.write_value.result)
    (held_of c.write_value.new.self) h made (c.write_value.ensures.does reply state h)
