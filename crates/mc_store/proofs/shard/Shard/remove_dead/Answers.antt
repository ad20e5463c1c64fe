use Rattle.std.proofs.Common.{◌∙◌, sym}
use Rattle.mc_store.specs.Shard.{IsShard, held_of}
use Rattle.mc_store.proofs.Changes.{settled_absent, settled_gone, settled_live, dead_none, live_some}
use Rattle.mc_store.specs.internal.Stored.{item_with}
use Rattle.mc_store.proofs.WithoutValue.{found, none_found}
use Rattle.mc_store.proofs.shard.Shard.remove_dead.Goals as goal

pub returns-in_default : goal.returns-in_default
unfolding IsShard
returns-in_default c = λ state h. settled_absent (held_of c.args.self.now) state c.args.key.now h
    (none_found _ c.in_default.ensures)

pub returns-then-is_dead : goal.returns-then-is_dead
unfolding IsShard
returns-then-is_dead c = λ state h.
    let old = found _ c.in-Some.item c.in-Some.ensures in
    let item = item_with c.in-Some.item old.value in
    let none = dead_none c.args.self.now.time item _
    old.is (sym c.is_dead.ensures ∙ c.if-is_dead.true) in
    rw c.remove.ensures.left (settled_gone (held_of c.args.self.now) state c.args.key.now h none)

pub returns-else-is_dead : goal.returns-else-is_dead
unfolding IsShard
returns-else-is_dead c = λ state h.
    let old = found _ c.in-Some.item c.in-Some.ensures in
    let item = item_with c.in-Some.item old.value in
    settled_live (held_of c.args.self.now) state c.args.key.now item h
    (live_some c.args.self.now.time item _ old.is (sym c.is_dead.ensures ∙ c.if-is_dead.false))
