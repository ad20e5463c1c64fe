use Rattle.std.proofs.Common.{◌≡◌, w64}
use Rattle.std.proofs.lemmas.Int.{to_z-of_z}
use Rattle.mc_item.specs.Expiry.{expiry_of}
use Rattle.mc_item.specs.Kind.{key_of}
use Rattle.mc_store.specs.Shard.{IsShard, held_of}
use Rattle.mc_store.proofs.Shards.{live_item}
use Rattle.mc_store.proofs.Gets.{touch_miss, touch_hit, touch_lacks}
use Rattle.mc_store.specs.internal.Stored.{item_with}
use Rattle.mc_store.proofs.WithoutValue.{found, none_found}
use Rattle.mc_store.proofs.shard.Shard.touch.Goals as goal

pub returns-in_default-clause-acts : goal.returns-in_default-clause-acts
unfolding IsShard key_of
returns-in_default-clause-acts c =
    λ state h. rw c.remove.ensures.left
    (touch_miss (held_of c.args.self.now) state c.args.key.now c.args.exptime h (none_found _ c.in_default.ensures))

pub returns-in-Ok-clause-acts : goal.returns-in-Ok-clause-acts
unfolding IsShard key_of
returns-in-Ok-clause-acts c = λ state h.
    let old = found _ c.in-Some.item c.in-Some.ensures in
    let item = item_with c.in-Some.item old.value in
    let there = (live_item c.args.self.now.time _ item old.is).0 in
    let expiry : c.from_exptime.result ≡ expiry_of c.args.exptime c.args.self.now.time =
    rw (to_z-of_z w64 c.args.exptime c.ranges.exptime) at c.from_exptime.ensures in
    rw (c.in-Ok.ensures.promoted item there, expiry)
    (touch_hit (held_of c.args.self.now) state c.args.key.now c.args.exptime item h old.is)

pub returns-in-Err-clause-acts : goal.returns-in-Err-clause-acts
unfolding IsShard key_of
returns-in-Err-clause-acts c = λ state h.
    let old = found _ c.in-Some.item c.in-Some.ensures in
    rw c.in-Err.ensures.err
    (touch_lacks (held_of c.args.self.now) state c.args.key.now c.args.exptime (item_with c.in-Some.item old.value) h
    old.is)
