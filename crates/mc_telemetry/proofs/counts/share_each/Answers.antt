-- What is shared so far is what the first of them share, and each clone shares what its original does.
use Rattle.std.proofs.Common.{◌≡◌, ℕ, ◌+◌, ◌<◌, List, [], ◌∷◌, ◌++◌, length, take, get_or, sym, ap, ◌∙◌}
use Rattle.std.specs.Arc.{arc_value}
use Rattle.std.specs.declared.sync.Arc.{Arc}
use Rattle.std.proofs.lemmas.List.{take_all}
use Rattle.std.proofs.lemmas.Result.{IfOk-from_err}
use Rattle.crossbeam_utils.specs.Padded.{padded_value}
use Rattle.crossbeam_utils.specs.declared.cache_padded.CachePadded.{CachePadded}
use Rattle.mc_telemetry.specs.Counts.{shared_value, shared_values}
use Rattle.mc_telemetry.proofs.Summing.{shared_more, shared_next}
use Rattle.mc_telemetry.proofs.counts.share_each.Goals as goal

-- One clone more shares what the next one shares.
cloned_next : {X Z : Type 0} (all before after : List (Arc (CachePadded X) Z)) (place : ℕ)
    (one clone : Arc (CachePadded X) Z) → after ≡ before ++ clone ∷ []
    → arc_value clone ≡ arc_value one → place < length all → one ≡ get_or all place one → shared_values before
    ≡ shared_values (take place all)
    → shared_values after ≡ shared_values (take (place + 1) all)
cloned_next all before after place one clone is same within read so_far =
    ap shared_values is ∙ (shared_more before clone
    ∙ (ap (λ values. values ++ shared_value clone ∷ []) so_far
    ∙ (ap (λ value. shared_values (take place all) ++ padded_value value ∷ []) same
    ∙ sym (shared_next all place one within read))))

pub returns-in_err-shared : goal.returns-in_err-shared
returns-in_err-shared g c = IfOk-from_err c.from_residual.result _ c.from_residual.ensures.0

pub returns-in_err-try_clone : goal.returns-in_err-try_clone
returns-in_err-try_clone g c =
    IfOk-from_err c.from_residual-in_err-try_clone.result _ c.from_residual-in_err-try_clone.ensures.0

pub returns-in_err-push : goal.returns-in_err-push
returns-in_err-push g c = IfOk-from_err c.from_residual-in_err-push.result _ c.from_residual-in_err-push.ensures.0

pub loop-one-init : goal.loop-one-init
loop-one-init g c = ap shared_values c.in_ok-shared.ensures.items

pub loop-one-preserved : goal.loop-one-preserved
loop-one-preserved g c =
    cloned_next c.args.all.now c.loop-one.shared.items c.push.new.self.items c.loop-one.one-index c.one-item.result
    c.in_ok-try_clone.field-0 c.in_ok-push.ensures.items c.in_ok-try_clone.ensures
    c.loop-one-test.true c.one-item.is c.loop-one.invariant

pub returns : goal.returns
returns g c =
    c.loop-one.invariant ∙ ap shared_values (take_all c.loop-one.one-index c.args.all.now c.loop-one-test.false)
