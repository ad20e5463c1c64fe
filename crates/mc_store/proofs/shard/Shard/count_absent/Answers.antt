-- What is made of a miss is the step of none, and what is refused is lawful.
use Rattle.std.proofs.Common.{◌≡◌, ap, sym, inl, inr, refl, Some, w64, rules}
use Rattle.std.proofs.lemmas.Int.{to_z-of_z}
use Rattle.mc_item.specs.Expiry.{expiry_of}
use Rattle.mc_item.specs.Kind.{is_lawful}
use Rattle.mc_item.specs.declared.answer.Kind.TheVariants as kind
use Rattle.mc_item.specs.Value.{number_text}
use Rattle.mc_store.specs.State.{without_dead}
use Rattle.mc_store.specs.Step.{absent_count}
use Rattle.mc_store.specs.Shard.{IsShard, held_of}
use Rattle.mc_store.specs.internal.Parts.{answered}
use Rattle.mc_store.proofs.Stores.{fresh_of}
use Rattle.mc_store.proofs.Refusals.{lawful_refusal}
use Rattle.mc_store.proofs.Counts.{counter_as, vivified_as}
use Rattle.mc_store.proofs.shard.Shard.count_absent.Goals as goal

pub returns-in_default-clause-does : goal.returns-in_default-clause-does
unfolding IsShard
returns-in_default-clause-does c = λ reply state h.
    let settled = without_dead state (Some c.args.key) in (
      settled,
      inr (ap (λ v. absent_count settled c.args.key c.args.token reply v) (sym c.in_default.is)),
      c.remove_dead.ensures state h,
    )

pub returns-in_default-of_number-clause-does : goal.returns-in_default-of_number-clause-does
unfolding IsShard
returns-in_default-of_number-clause-does c =
    λ reply state h. (
      without_dead state (Some c.args.key),
      inl (refl, refl),
      c.remove_dead-in_default-of_number.ensures state h,
    )

pub returns-clause-does : goal.returns-clause-does
unfolding IsShard
returns-clause-does c = λ reply state h.
    let settled = without_dead state (Some c.args.key) in
    let made = c.in-Some.made in
    let expiry : c.from_exptime-expiry.result ≡ expiry_of made.exptime c.args.self.now.time =
    rw (to_z-of_z w64 made.exptime (search rules)) at c.from_exptime-expiry.ensures in
    let is : c.fresh_item-item.result
    ≡ fresh_of (number_text made.initial) 0 (expiry_of made.exptime c.args.self.now.time) =
    rw (← expiry, ← c.in-Ok.ensures.text) c.fresh_item-item.ensures in
    vivified_as settled c.args.key c.args.token c.args.vivify made reply (answered reply c.write_done.result)
    (held_of c.write_done.new.self) c.in-Some.is
    (counter_as (held_of c.args.self.now) state c.args.key c.args.token made c.fresh_item-item.result reply
    (answered reply c.write_done.result) (held_of c.write_done.new.self) h is (c.write_done.ensures.does reply state h))

pub returns-in_default-clause-refused : goal.returns-in_default-clause-refused
unfolding is_lawful
returns-in_default-clause-refused c = refl

pub returns-in_default-clause-meta_refused : goal.returns-in_default-clause-meta_refused
unfolding is_lawful
returns-in_default-clause-meta_refused c = refl

pub returns-in_default-of_number-clause-refused : goal.returns-in_default-of_number-clause-refused
unfolding is_lawful
returns-in_default-of_number-clause-refused c = refl

pub returns-in_default-of_number-clause-meta_refused : goal.returns-in_default-of_number-clause-meta_refused
unfolding is_lawful
returns-in_default-of_number-clause-meta_refused c = refl

pub returns-clause-refused : goal.returns-clause-refused
unfolding is_lawful
returns-clause-refused c = lawful_refusal kind.Count c.write_done.result refl refl c.write_done.ensures.refused

pub returns-clause-meta_refused : goal.returns-clause-meta_refused
unfolding is_lawful
returns-clause-meta_refused c = lawful_refusal kind.MetaCount c.write_done.result refl refl c.write_done.ensures.refused
