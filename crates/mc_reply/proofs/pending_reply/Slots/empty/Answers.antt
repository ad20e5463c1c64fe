-- As many answers are missing as there are slots.
use Rattle.std.proofs.Common.{◌≡◌, ℕ, ◌≤◌, List, replicate, cond, Option, None, refl, arith}
use Rattle.std.specs.Option.{is_none}
use Rattle.std.proofs.lemmas.List.Folds.{sum_by-replicate}
use Rattle.mc_item.specs.declared.answer.Answer.{Answer}
use Rattle.mc_reply.specs.Slots.{missing_in}
use Rattle.mc_reply.proofs.pending_reply.Slots.empty.Goals as goal

-- Of slots that are all empty each is missing.
all_empty : (slots : List (Option Answer)) (rounds count : ℕ) → slots ≡ replicate rounds None → count ≤ rounds
    → rounds ≤ count → (count ≡ missing_in slots) × (slots ≡ replicate count None)
all_empty slots rounds count are least most =
    let same : rounds ≡ count = omega arith in
    rw (are, same) (
      omega (arith, sum_by-replicate (λ (slot : Option Answer). cond (is_none slot) 1 0) count None),
      refl,
    )

pub invariant_of-result : goal.invariant_of-result
invariant_of-result c =
    (all_empty c.loop.answers.items c.loop.counter c.args.count c.loop.invariant c.loop-test.false
    c.loop.auto.counter-end).0

pub returns : goal.returns
returns c =
    (all_empty c.loop.answers.items c.loop.counter c.args.count c.loop.invariant c.loop-test.false
    c.loop.auto.counter-end).1
