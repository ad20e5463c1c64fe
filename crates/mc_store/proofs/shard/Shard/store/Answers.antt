use Rattle.std.proofs.Common.{◌≡◌, ◌+◌, sym, ◌∙◌, Some}
use Rattle.mc_item.specs.Value.{joined}
use Rattle.mc_store.specs.State.{without_dead}
use Rattle.mc_store.specs.Step.{stores, absent_store, store_step}
use Rattle.std.specs.FinMap.{get}
use Rattle.mc_store.specs.Shard.{IsShard, held_of}
use Rattle.mc_store.specs.internal.Parts.{answered}
use Rattle.mc_store.proofs.Shards.{live_item}
use Rattle.mc_store.proofs.Writes.{along}
use Rattle.mc_store.proofs.Outcomes.{lacks_as}
use Rattle.mc_store.proofs.Stores.{fresh_of, set_is, store_misses, add_refused, store_exists, replaced_is, joined_large}
use Rattle.mc_store.proofs.Stores.{joined_as}
use Rattle.mc_store.specs.internal.Stored.{item_with}
use Rattle.mc_store.proofs.WithoutValue.{found, live_with, none_found}
use Rattle.mc_store.proofs.shard.Shard.store.Goals as goal

pub returns-then-is_unconditional-clause-does : goal.returns-then-is_unconditional-clause-does
unfolding IsShard
returns-then-is_unconditional-clause-does c = λ reply state h.
    let asked = c.args.asked in
    let settled = without_dead state (Some c.args.asked.key) in
    along settled (stores settled asked reply) (store_step settled asked reply (get settled.items c.args.asked.key))
    (answered reply c.store_asked.result) (held_of c.store_asked.new.self)
    (set_is settled asked reply c.if-is_unconditional.ensures) (c.store_asked.ensures.does reply state h)

pub returns-in_default-clause-does : goal.returns-in_default-clause-does
unfolding IsShard
returns-in_default-clause-does c = λ reply state h.
    let asked = c.args.asked in
    let settled = without_dead state (Some c.args.asked.key) in
    along settled (absent_store settled asked reply asked.mode asked.compare)
    (store_step settled asked reply (get settled.items c.args.asked.key)) (answered reply c.store_absent.result)
    (held_of c.store_absent.new.self) (store_misses (held_of c.args.self.now) state asked reply h
    (none_found _ c.in_default.ensures))
    (c.store_absent.ensures.does reply state h)

pub returns-in-Add-clause-does : goal.returns-in-Add-clause-does
unfolding IsShard
returns-in-Add-clause-does c = λ reply state h.
    let old = found _ c.in-Some.item c.in-Some.ensures in
    let item = item_with c.in-Some.item old.value in
    let there = (live_item c.args.self.now.time _ item old.is).0 in
    rw (c.in-Ok.ensures.promoted item there)
    (add_refused (held_of c.args.self.now) state item c.args.asked reply h old.is c.in-Add.is)

pub returns-in_default-promote-clause-does : goal.returns-in_default-promote-clause-does
unfolding IsShard
returns-in_default-promote-clause-does c = λ reply state h.
    let old = found _ c.in-Some.item c.in-Some.ensures in
    let item = item_with c.in-Some.item old.value in
    rw c.in_default-promote.ensures.err
    (lacks_as (held_of c.args.self.now) state c.args.asked.key item _ h old.is)

pub returns-then-is_other-clause-does : goal.returns-then-is_other-clause-does
unfolding IsShard
returns-then-is_other-clause-does c = λ reply state h.
    let old = found _ c.in-Some.item c.in-Some.ensures in
    let item = item_with c.in-Some.item old.value in
    store_exists (held_of c.args.self.now) state item
    c.args.asked reply h old.is c.in_default-mode.not-Add (sym c.if-is_other.ensures)

pub returns-in_default-joining-clause-does : goal.returns-in_default-joining-clause-does
unfolding IsShard
returns-in_default-joining-clause-does c = λ reply state h.
    let old = found _ c.in-Some.item c.in-Some.ensures in
    let item = item_with c.in-Some.item old.value in
    let asked = c.args.asked in
    let settled = without_dead state (Some c.args.asked.key) in
    along settled (stores settled asked reply) (store_step settled asked reply (get settled.items c.args.asked.key))
    (answered reply c.store_asked-in_default-joining.result) (held_of c.store_asked-in_default-joining.new.self)
    (replaced_is (held_of c.args.self.now) state item asked reply h
    old.is c.in_default-mode.not-Add c.in_default-joining.ensures (sym c.if-is_other.ensures))
    (c.store_asked-in_default-joining.ensures.does reply state h)

pub returns-in_default-value-clause-does : goal.returns-in_default-value-clause-does
unfolding IsShard
returns-in_default-value-clause-does c = λ reply state h.
    let old = found _ c.in-Some.item c.in-Some.ensures in
    let item = item_with c.in-Some.item old.value in
    rw c.value.ensures.unchanged
    (lacks_as (held_of c.args.self.now) state c.args.asked.key item _ h old.is)

pub returns-then-is_too_large-clause-does : goal.returns-then-is_too_large-clause-does
unfolding IsShard
returns-then-is_too_large-clause-does c = λ reply state h.
    let item = item_with c.in-Some.item c.in-Ok-Some.old in
    let is = live_with c.args.self.now.time _ c.in-Some.item c.in-Ok-Some.old c.in-Some.ensures
    (sym c.in-Ok-Some.field-0-is ∙ c.in-Ok-Some.ensures.value) in
    let test = rw c.value.ensures.unchanged at c.is_too_large.ensures in
    rw c.value.ensures.unchanged
    (joined_large (held_of c.args.self.now) state item
    c.args.asked reply c.in-Some-joining.after h is c.in-Some-joining.ensures (sym c.if-is_other.ensures)
    (c.len.result + c.len-2.result) (rw (c.len.ensures.value, c.len-2.ensures.value))
    (sym test ∙ c.if-is_too_large.true))

pub returns-in_default-joined-clause-does : goal.returns-in_default-joined-clause-does
unfolding IsShard
returns-in_default-joined-clause-does c = λ reply state h.
    let old = found _ c.in-Some.item c.in-Some.ensures in
    let item = item_with c.in-Some.item old.value in
    rw c.value.ensures.unchanged
    (lacks_as (held_of c.args.self.now) state c.args.asked.key item _ h old.is)

pub returns-clause-does : goal.returns-clause-does
unfolding IsShard
returns-clause-does c = λ reply state h.
    let item = item_with c.in-Some.item c.in-Ok-Some.old in
    let is = live_with c.args.self.now.time _ c.in-Some.item c.in-Ok-Some.old c.in-Some.ensures
    (sym c.in-Ok-Some.field-0-is ∙ c.in-Ok-Some.ensures.value) in
    let made : c.fresh_item-joined.result
    ≡ fresh_of (joined item.value c.args.asked.value c.in-Some-joining.after) item.flags item.expiry =
    rw (← c.in-Ok-joined.ensures) c.fresh_item-joined.ensures in
    joined_as (held_of c.args.self.now) state item c.args.asked reply c.in-Some-joining.after c.fresh_item-joined.result
    (answered reply c.write_value.result) (held_of c.write_value.new.self) h is c.in-Some-joining.ensures
    (sym c.if-is_other.ensures) made (c.write_value.ensures.does reply state (rw c.value.ensures.unchanged h))
