-- The number of shards and their budget are the given ones, or the first error in them is reported.
use Rattle.std.proofs.Common.{◌≡◌, ℕ, Bool, List, Option, ap, sym, ◌∙◌}
use Rattle.std.proofs.lemmas.Result.{IfErr-weaker, IfOk-weaker}
use Rattle.clap.specs.Words.{first_value, found_of}
use Rattle.clap.proofs.TakesLemmas.{passed_up}
use Rattle.mc_options.specs.Numbers.{shares_by, total_of}
use Rattle.mc_options.proofs.Behind.{step}
use Rattle.mc_options.proofs.options.budget_in.Goals as goal

-- totals from equal texts
same_total : (fewest most fewest' most' : ℕ) (bytes bytes' : Bool)
    (memory megabytes memory' megabytes' : Option (List ℕ)) → fewest ≡ fewest' → most ≡ most' → bytes ≡ bytes'
    → memory ≡ memory' → megabytes ≡ megabytes' → total_of fewest' most' bytes' memory' megabytes'
    ≡ total_of fewest most bytes memory megabytes
same_total fewest most fewest' most' bytes bytes' memory megabytes memory' megabytes' first second third fourth fifth =
    ap (λ (n : ℕ). total_of n most' bytes' memory' megabytes') (sym first)
    ∙ (ap (λ (n : ℕ). total_of fewest n bytes' memory' megabytes') (sym second)
    ∙ (ap (λ (has : Bool). total_of fewest most has memory' megabytes') (sym third)
    ∙ (ap (λ (text : Option (List ℕ)). total_of fewest most bytes text megabytes') (sym fourth)
    ∙ ap (λ (text : Option (List ℕ)). total_of fewest most bytes memory text) (sym fifth))))

pub returns-in_err-shards-clause-refused : goal.returns-in_err-shards-clause-refused
returns-in_err-shards-clause-refused c =
    passed_up c.from_residual.result c.in_err-shards.field-0.0 _ c.from_residual.ensures.1
    (c.in_err-shards.ensures.refused.0, step _ _ _ c.in_err-shards.ensures.refused.1)

pub returns-in_err-total-clause-refused : goal.returns-in_err-total-clause-refused
returns-in_err-total-clause-refused c =
    let total =
    same_total _ _ _ _ _ _ _ _ _ _ c.range_of-range.ensures.fewest c.range_of-range.ensures.most
    c.is_given-has_bytes.ensures c.get_str-memory.ensures c.get_str-megabytes.ensures in
    passed_up c.from_residual-in_err-total.result c.in_err-total.field-0.0 _ c.from_residual-in_err-total.ensures.1 (
      c.in_err-total.ensures.refused.0,
      step _ _ _ c.in_ok-shards.ensures.given ∙ step _ _ _ (total ∙ c.in_err-total.ensures.refused.1),
    )

pub returns-clause-given : goal.returns-clause-given
returns-clause-given c =
    let given = first_value (found_of c.args.matches.now) in
    let total =
    same_total _ _ _ _ _ _ _ _ _ _ c.range_of-range.ensures.fewest c.range_of-range.ensures.most
    c.is_given-has_bytes.ensures c.get_str-memory.ensures c.get_str-megabytes.ensures in
    let fewest = ap (λ (n : ℕ). shares_by given n c.in_ok-total.total) (sym c.range_of-range.ensures.fewest) in
    IfOk-weaker c.shares_in.result _ _
    (λ budget is. step _ _ _ c.in_ok-shards.ensures.given
    ∙ (step _ _ _ (total ∙ c.in_ok-total.ensures.given) ∙ (fewest ∙ is))) c.shares_in.ensures.given

pub returns-clause-refused : goal.returns-clause-refused
returns-clause-refused c =
    let given = first_value (found_of c.args.matches.now) in
    let total =
    same_total _ _ _ _ _ _ _ _ _ _ c.range_of-range.ensures.fewest c.range_of-range.ensures.most
    c.is_given-has_bytes.ensures c.get_str-memory.ensures c.get_str-megabytes.ensures in
    let fewest = ap (λ (n : ℕ). shares_by given n c.in_ok-total.total) (sym c.range_of-range.ensures.fewest) in
    IfErr-weaker c.shares_in.result _ _
    (λ fault is. (
      is.0,
      step _ _ _ c.in_ok-shards.ensures.given
          ∙ (step _ _ _ (total ∙ c.in_ok-total.ensures.given) ∙ (fewest ∙ is.1)),
    )) c.shares_in.ensures.refused
