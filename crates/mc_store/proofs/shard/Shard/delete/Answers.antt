use Rattle.std.proofs.Common.{sym}
use Rattle.mc_item.specs.Kind.{key_of}
use Rattle.mc_store.specs.Shard.{IsShard, held_of}
use Rattle.mc_store.proofs.Outcomes.{live_of, dead_of}
use Rattle.mc_store.proofs.Deletes.{delete_miss, delete_hit}
use Rattle.mc_store.specs.internal.Stored.{item_with}
use Rattle.mc_store.proofs.WithoutValue.{found, none_found}
use Rattle.mc_store.proofs.shard.Shard.delete.Goals as goal
use Rattle.mc_store.proofs.Changes.{none_of}

pub returns-in_default-clause-acts : goal.returns-in_default-clause-acts
unfolding IsShard key_of
returns-in_default-clause-acts c = λ state h.
    rw c.remove.ensures.left
    (delete_miss (held_of c.args.self.now) state c.args.key.now h
    (none_of c.args.self.now.time _ (none_found _ c.in_default.ensures.item)))

pub returns-then-is_dead-clause-acts : goal.returns-then-is_dead-clause-acts
unfolding IsShard key_of
returns-then-is_dead-clause-acts c = λ state h.
    let old = found _ c.in-Some.item c.in-Some.ensures.item in
    rw c.remove.ensures.left
    (delete_miss (held_of c.args.self.now) state c.args.key.now h
    (dead_of c.args.self.now.time _ (item_with c.in-Some.item old.value) old.is (sym c.if-is_dead.ensures)))

pub returns-clause-acts : goal.returns-clause-acts
unfolding IsShard key_of
returns-clause-acts c = λ state h.
    let old = found _ c.in-Some.item c.in-Some.ensures.item in
    let item = item_with c.in-Some.item old.value in
    rw c.remove.ensures.left
    (delete_hit (held_of c.args.self.now) state c.args.key.now item h
    (live_of c.args.self.now.time _ item old.is (sym c.if-is_dead.ensures)))
