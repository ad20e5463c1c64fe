use Rattle.std.proofs.Common.{◌≡◌, sym, true, false}
use Rattle.mc_item.specs.Kind.{key_of}
use Rattle.mc_store.specs.Shard.{IsShard, held_of}
use Rattle.mc_store.proofs.Shards.{live_item}
use Rattle.mc_store.proofs.Deletes.{meta_delete_miss, meta_delete_exists, meta_delete_hit, stale_refused, stale_done}
use Rattle.mc_store.specs.internal.Stored.{item_with}
use Rattle.mc_store.proofs.WithoutValue.{found, none_found}
use Rattle.mc_store.proofs.shard.Shard.meta_delete.Goals as goal

pub returns-in_default-clause-acts : goal.returns-in_default-clause-acts
unfolding IsShard key_of
returns-in_default-clause-acts c = λ state h.
    rw c.remove.ensures.left (meta_delete_miss (held_of c.args.self.now) state c.args.asked.now h
    (none_found _ c.in_default.ensures))

pub returns-then-is_other-clause-acts : goal.returns-then-is_other-clause-acts
unfolding IsShard key_of
returns-then-is_other-clause-acts c = λ state h.
    let old = found _ c.in-Some.item c.in-Some.ensures in
    let item = item_with c.in-Some.item old.value in
    meta_delete_exists (held_of c.args.self.now) state c.args.asked.now item h
    old.is (sym c.if-is_other.ensures)

pub returns-then-not-asked-clause-acts : goal.returns-then-not-asked-clause-acts
unfolding IsShard key_of
returns-then-not-asked-clause-acts c = λ state h.
    let old = found _ c.in-Some.item c.in-Some.ensures in
    let item = item_with c.in-Some.item old.value in
    let no_mark : c.args.asked.now.invalidate ≡ false = c.if-not-asked.true in
    rw c.remove-then-not-asked.ensures.left
    (meta_delete_hit (held_of c.args.self.now) state c.args.asked.now item h
    old.is (sym c.if-is_other.ensures) no_mark)

pub returns-in_default-unique_for-clause-acts : goal.returns-in_default-unique_for-clause-acts
unfolding IsShard key_of
returns-in_default-unique_for-clause-acts c = λ state h.
    let old = found _ c.in-Some.item c.in-Some.ensures in
    let item = item_with c.in-Some.item old.value in
    let mark : c.args.asked.now.invalidate ≡ true = c.if-not-asked.false in
    stale_refused (held_of c.args.self.now) state c.args.asked.now item h
    old.is (sym c.if-is_other.ensures) mark c.in_default-unique_for.ensures.unique

pub returns-clause-acts : goal.returns-clause-acts
unfolding IsShard key_of
returns-clause-acts c = λ state h.
    let old = found _ c.in-Some.item c.in-Some.ensures in
    let item = item_with c.in-Some.item old.value in
    let mark : c.args.asked.now.invalidate ≡ true = c.if-not-asked.false in
    let there = (live_item c.args.self.now.time _ item old.is).0 in
    rw (c.count_given.ensures.held, c.mark_stale.ensures item there, c.expiry_from-expiry.ensures)
    (stale_done (held_of c.args.self.now) state c.args.asked.now item c.in-Some-unique_for.unique h
    old.is (sym c.if-is_other.ensures) mark c.in-Some-unique_for.ensures.unique)
