use Rattle.std.proofs.Common.{◌≡◌, ◌+◌, sym, ◌∙◌, Some, true, false, inr, length, w64, rules}
use Rattle.std.proofs.lemmas.Int.{to_z-of_z}
use Rattle.mc_item.specs.declared.answer.Answer.TheVariants.{Stored}
use Rattle.mc_item.specs.Expiry.{expiry_of}
use Rattle.mc_store.specs.State.{item_overhead, without_dead}
use Rattle.mc_store.specs.Rows.{stored_item}
use Rattle.mc_store.specs.Step.{is_too_large}
use Rattle.mc_store.specs.Shard.{IsShard, held_of}
use Rattle.mc_store.specs.internal.Parts.{refusal}
use Rattle.mc_store.proofs.Stores.{fresh_of, set_stored}
use Rattle.mc_store.proofs.Writes.{large_there, too_large, fits_both}
use Rattle.mc_store.proofs.shard.Shard.set.Goals as goal

pub returns-then-is_too_large-clause-does : goal.returns-then-is_too_large-clause-does
unfolding IsShard
returns-then-is_too_large-clause-does c = λ state h.
    let settled = without_dead state (Some c.args.asked.key) in
    let large : is_too_large settled c.args.asked.key c.args.asked.value ≡ true =
    large_there (held_of c.args.self.now) state c.args.asked.key c.args.asked.value c.len.result true h
    (sym c.len.ensures.value) (sym c.is_too_large.ensures ∙ c.if-is_too_large.true) in
    too_large settled c.args.asked.key c.args.asked.unique c.args.asked.value
    (stored_item c.args.asked.value c.args.asked.flags c.args.asked.exptime settled.time) (λ _. Stored)
    (held_of c.remove_dead.new.self) large (c.remove_dead.ensures state h)

pub write-requires : goal.write-requires
write-requires c =
    let both = fits_both c.args.self.now.limit c.len.result c.args.self.now.items.budget
    (length c.args.asked.key + c.len.result + item_overhead) (sym c.is_too_large.ensures ∙ c.if-is_too_large.false) in
    record { fits = inr (rw (c.fresh_item-item.ensures, ← c.len.ensures.value) both.1) }

pub returns-in-Ok-clause-does : goal.returns-in-Ok-clause-does
unfolding IsShard
returns-in-Ok-clause-does c = λ state h.
    let expiry : c.from_exptime-expiry.result ≡ expiry_of c.args.asked.exptime c.args.self.now.time =
    rw (to_z-of_z w64 c.args.asked.exptime (search rules)) at c.from_exptime-expiry.ensures in
    let made : c.fresh_item-item.result
    ≡ fresh_of c.args.asked.value c.args.asked.flags (expiry_of c.args.asked.exptime c.args.self.now.time) =
    rw (← expiry) c.fresh_item-item.ensures in
    let small = large_there (held_of c.args.self.now) state c.args.asked.key c.args.asked.value c.len.result false h
    (sym c.len.ensures.value) (sym c.is_too_large.ensures ∙ c.if-is_too_large.false) in
    set_stored (held_of c.args.self.now) state c.args.asked c.fresh_item-item.result Stored (held_of c.write.new.self) h
    made small (c.in-Ok.ensures (λ _. Stored) state h)

pub returns-in-Err-clause-does : goal.returns-in-Err-clause-does
unfolding IsShard
returns-in-Err-clause-does c = λ state h.
    let expiry : c.from_exptime-expiry.result ≡ expiry_of c.args.asked.exptime c.args.self.now.time =
    rw (to_z-of_z w64 c.args.asked.exptime (search rules)) at c.from_exptime-expiry.ensures in
    let made : c.fresh_item-item.result
    ≡ fresh_of c.args.asked.value c.args.asked.flags (expiry_of c.args.asked.exptime c.args.self.now.time) =
    rw (← expiry) c.fresh_item-item.ensures in
    let small = large_there (held_of c.args.self.now) state c.args.asked.key c.args.asked.value c.len.result false h
    (sym c.len.ensures.value) (sym c.is_too_large.ensures ∙ c.if-is_too_large.false) in
    rw c.answer.ensures
    (set_stored (held_of c.args.self.now) state c.args.asked c.fresh_item-item.result (refusal c.in-Err.refused)
    (held_of c.write.new.self) h made small (c.in-Err.ensures (λ _. Stored) state h))
