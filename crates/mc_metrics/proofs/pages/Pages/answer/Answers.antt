-- The body is the text that was made, and the target is the one for which it was.
use Rattle.std.proofs.Common.{ℕ, List, string_bytes, subst, sym}
use Rattle.std.proofs.lemmas.Result.{IfOk-weaker}
use Rattle.mc_metrics.specs.declared.pages.Target.{Target}
use Rattle.mc_metrics.specs.Answers.{IsTextAt}
use Rattle.mc_metrics.proofs.pages.Pages.answer.Goals as goal

pub returns-in_ok-all_metrics-in-Metrics : goal.returns-in_ok-all_metrics-in-Metrics
returns-in_ok-all_metrics-in-Metrics g c =
    let pages = c.args.self.now in
    let there = λ (target : Target) (text : List ℕ). IsTextAt g.C.Count.has_told target pages.facts pages.counts
    pages.uptime text in
    IfOk-weaker c.from_string.result _ _
    (λ body is. subst (λ text. there c.args.target text) (sym is)
    (subst (λ target. there target (string_bytes c.in_ok-all_metrics-in-Metrics.field-0)) (sym c.in-Metrics.is)
    c.in_ok-all_metrics-in-Metrics.ensures))
    c.from_string.ensures
