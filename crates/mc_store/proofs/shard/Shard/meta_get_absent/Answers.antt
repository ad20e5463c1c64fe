use Rattle.std.proofs.Common.{◌≡◌, ℕ, ap, sym, inr, ◌∙◌, Some, w64, rules}
use Rattle.std.proofs.lemmas.Int.{to_z-of_z}
use Rattle.mc_item.specs.declared.answer.Answer.{Answer}
use Rattle.mc_item.specs.declared.answer.Answer.TheVariants.{MetaHit}
use Rattle.mc_item.specs.Expiry.{expiry_of}
use Rattle.mc_store.specs.State.{without_dead}
use Rattle.mc_store.specs.Rows.{made_hit}
use Rattle.mc_store.specs.Step.{absent_meta_get}
use Rattle.mc_store.specs.Shard.{IsShard, held_of}
use Rattle.mc_store.specs.internal.Parts.{refusal}
use Rattle.mc_store.proofs.Writes.{as_answer}
use Rattle.mc_store.proofs.Gets.{empty_item, vivified_item_as, vivified_as, made_hit_is}
use Rattle.mc_store.proofs.shard.Shard.meta_get_absent.Goals as goal

pub returns-in_default-clause-does : goal.returns-in_default-clause-does
unfolding IsShard
returns-in_default-clause-does c = λ state h.
    let settled = without_dead state (Some c.args.key) in
    (settled, inr (ap (λ v. absent_meta_get settled c.args.key v) (sym c.in_default.is)), c.remove_dead.ensures state h)

pub returns-in-Ok-clause-does : goal.returns-in-Ok-clause-does
unfolding IsShard
returns-in-Ok-clause-does c = λ state h.
    let settled = without_dead state (Some c.args.key) in
    let time = c.args.self.now.time in
    let item = c.empty_item-item.result in
    let said : ℕ → Answer = λ unique. MetaHit (made_hit (record item { unique = unique }) time) in
    let expiry : c.from_exptime.result ≡ expiry_of c.in-Some.exptime time =
    rw (to_z-of_z w64 c.in-Some.exptime (search rules)) at c.from_exptime.ensures in
    let is : item ≡ empty_item (expiry_of c.in-Some.exptime time) 0 = rw (← expiry) c.empty_item-item.ensures in
    let hit : made_hit (record item { unique = c.in-Ok.unique }) time ≡ c.made_hit.result =
    made_hit_is item c.from_exptime.result c.in-Ok.unique time c.seconds_left-left.result
    c.empty_item-item.ensures c.seconds_left-left.ensures ∙
    sym c.made_hit.ensures in
    as_answer settled (absent_meta_get settled c.args.key c.args.vivify) (said c.in-Ok.unique)
    (MetaHit c.made_hit.result) (held_of c.write.new.self) (ap (λ m. MetaHit m) hit)
    (vivified_as settled c.args.key c.args.vivify c.in-Some.exptime (said c.in-Ok.unique) (held_of c.write.new.self)
    c.in-Some.is
    (vivified_item_as (held_of c.args.self.now) state c.args.key c.in-Some.exptime item (said c.in-Ok.unique)
    (held_of c.write.new.self) h is (c.in-Ok.ensures said state h)))

pub returns-in-Err-clause-does : goal.returns-in-Err-clause-does
unfolding IsShard
returns-in-Err-clause-does c = λ state h.
    let settled = without_dead state (Some c.args.key) in
    let time = c.args.self.now.time in
    let item = c.empty_item-item.result in
    let said : ℕ → Answer = λ unique. MetaHit (made_hit (record item { unique = unique }) time) in
    let expiry : c.from_exptime.result ≡ expiry_of c.in-Some.exptime time =
    rw (to_z-of_z w64 c.in-Some.exptime (search rules)) at c.from_exptime.ensures in
    let is : item ≡ empty_item (expiry_of c.in-Some.exptime time) 0 = rw (← expiry) c.empty_item-item.ensures in
    let told = refusal c.in-Err.refused in
    rw c.answer.ensures
    (vivified_as settled c.args.key c.args.vivify c.in-Some.exptime told (held_of c.write.new.self) c.in-Some.is
    (vivified_item_as (held_of c.args.self.now) state c.args.key c.in-Some.exptime item told
    (held_of c.write.new.self) h is (c.in-Err.ensures said state h)))
