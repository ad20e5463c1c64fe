-- What is counted is the step of the item that is found, or of none, and what is refused is lawful.
use Rattle.std.proofs.Common.{◌≡◌, ℕ, true, Option, Some, None, refl, sym, ◌∙◌, inl}
use Rattle.std.proofs.lemmas.Bool.{false≢true}
use Rattle.mc_item.specs.Kind.{is_lawful}
use Rattle.mc_item.specs.declared.answer.Kind.TheVariants as kind
use Rattle.mc_item.specs.declared.item.Item.{Item}
use Rattle.mc_store.specs.Rows.{counted_item}
use Rattle.mc_store.specs.Shard.{IsShard, held_of}
use Rattle.mc_store.specs.Step.{is_other}
use Rattle.mc_store.specs.internal.Parts.{answered}
use Rattle.mc_store.proofs.Outcomes.{lacks_as}
use Rattle.mc_store.proofs.Refusals.{lawful_refusal}
use Rattle.mc_store.proofs.Counts.{count_misses, count_exists, count_fails, counted_by}
use Rattle.mc_store.specs.internal.Stored.{item_with}
use Rattle.mc_store.proofs.WithoutValue.{found, live_with, none_found}
use Rattle.mc_store.proofs.shard.Shard.count.Goals as goal

-- Where no unique is asked for, the item's is no other.
none_other : (compare : Option ℕ) (unique : ℕ) → true ≡ is_other compare unique → compare ≡ None → ⊥
none_other None unique other none = false≢true (sym other)
none_other (Some asked) unique other none = cc

pub returns-in_default-clause-does : goal.returns-in_default-clause-does
unfolding IsShard
returns-in_default-clause-does c = λ reply state h.
    count_misses (held_of c.args.self.now) state c.args.asked reply (answered reply c.count_absent.result)
    (held_of c.count_absent.new.self) h (none_found _ c.in_default.ensures) (c.count_absent.ensures.does reply state h)

pub returns-then-is_other-clause-does : goal.returns-then-is_other-clause-does
unfolding IsShard
returns-then-is_other-clause-does c = λ reply state h.
    let old = found _ c.in-Some.item c.in-Some.ensures in
    let item = item_with c.in-Some.item old.value in
    count_exists (held_of c.args.self.now) state item c.args.asked reply h old.is
    (sym c.if-is_other.ensures)

pub returns-in_default-value-clause-does : goal.returns-in_default-value-clause-does
unfolding IsShard
returns-in_default-value-clause-does c = λ reply state h.
    let old = found _ c.in-Some.item c.in-Some.ensures in
    let item = item_with c.in-Some.item old.value in
    rw c.value.ensures.unchanged
    (lacks_as (held_of c.args.self.now) state c.args.asked.key item _ h old.is)

pub returns-in_default-number-clause-does : goal.returns-in_default-number-clause-does
unfolding IsShard
returns-in_default-number-clause-does c = λ reply state h.
    let item = item_with c.in-Some.item c.in-Ok-Some.value in
    let is = live_with c.args.self.now.time _ c.in-Some.item c.in-Ok-Some.value c.in-Some.ensures
    (sym c.in-Ok-Some.field-0-is ∙ c.in-Ok-Some.ensures.value) in
    rw c.value.ensures.unchanged
    (count_fails (held_of c.args.self.now) state item c.args.asked reply h is
    (sym c.if-is_other.ensures) c.in_default-number.ensures)

pub returns-in_default-of_number-clause-does : goal.returns-in_default-of_number-clause-does
unfolding IsShard
returns-in_default-of_number-clause-does c = λ reply state h.
    let old = found _ c.in-Some.item c.in-Some.ensures in
    let item = item_with c.in-Some.item old.value in
    rw c.value.ensures.unchanged
    (lacks_as (held_of c.args.self.now) state c.args.asked.key item _ h old.is)

pub returns-clause-does : goal.returns-clause-does
unfolding IsShard
returns-clause-does c = λ reply state h.
    let item = item_with c.in-Some.item c.in-Ok-Some.value in
    let is = live_with c.args.self.now.time _ c.in-Some.item c.in-Ok-Some.value c.in-Some.ensures
    (sym c.in-Ok-Some.field-0-is ∙ c.in-Ok-Some.ensures.value) in
    let number = c.counted-number.result in
    let new_item : Item = record item { value = c.in-Ok.value; expiry = c.expiry_from.result } in
    let made : new_item ≡ counted_item item number c.args.asked.exptime c.args.self.now.time item.unique =
    rw (c.in-Ok.ensures.text, c.expiry_from.ensures) in
    counted_by (held_of c.args.self.now) state item c.args.asked reply c.in-Some-number.number number new_item
    (answered reply c.write_done.result) (held_of c.write_done.new.self) h is
    (sym c.if-is_other.ensures) c.in-Some-number.ensures c.counted-number.ensures made
    (c.write_done.ensures.does reply state (rw c.value.ensures.unchanged h))

pub returns-in_default-clause-refused : goal.returns-in_default-clause-refused
returns-in_default-clause-refused c = λ _. c.count_absent.ensures.refused

pub returns-in_default-clause-meta_refused : goal.returns-in_default-clause-meta_refused
returns-in_default-clause-meta_refused c = c.count_absent.ensures.meta_refused

pub returns-then-is_other-clause-refused : goal.returns-then-is_other-clause-refused
returns-then-is_other-clause-refused c =
    λ none. absurd (none_other c.args.asked.compare c.in-Some.item.unique c.if-is_other.ensures none)

pub returns-then-is_other-clause-meta_refused : goal.returns-then-is_other-clause-meta_refused
unfolding is_lawful
returns-then-is_other-clause-meta_refused c = refl

pub returns-in_default-value-clause-refused : goal.returns-in_default-value-clause-refused
unfolding is_lawful
returns-in_default-value-clause-refused c = λ _. refl

pub returns-in_default-value-clause-meta_refused : goal.returns-in_default-value-clause-meta_refused
unfolding is_lawful
returns-in_default-value-clause-meta_refused c = refl

pub returns-in_default-number-clause-refused : goal.returns-in_default-number-clause-refused
unfolding is_lawful
returns-in_default-number-clause-refused c = λ _. refl

pub returns-in_default-number-clause-meta_refused : goal.returns-in_default-number-clause-meta_refused
unfolding is_lawful
returns-in_default-number-clause-meta_refused c = refl

pub returns-in_default-of_number-clause-refused : goal.returns-in_default-of_number-clause-refused
unfolding is_lawful
returns-in_default-of_number-clause-refused c = λ _. refl

pub returns-in_default-of_number-clause-meta_refused : goal.returns-in_default-of_number-clause-meta_refused
unfolding is_lawful
returns-in_default-of_number-clause-meta_refused c = refl

pub write_done-requires : goal.write_done-requires
write_done-requires c = record { fits = inl c.in-Ok.ensures.short }

pub returns-clause-refused : goal.returns-clause-refused
unfolding is_lawful
returns-clause-refused c = λ _. lawful_refusal kind.Count c.write_done.result refl refl c.write_done.ensures.refused

pub returns-clause-meta_refused : goal.returns-clause-meta_refused
unfolding is_lawful
returns-clause-meta_refused c = lawful_refusal kind.MetaCount c.write_done.result refl refl c.write_done.ensures.refused
