-- The sizes are the given ones, or the first error in them is reported.
use Rattle.std.proofs.Common.{ℕ, codes, arith, ap, sym, ◌∙◌}
use Rattle.clap.specs.Words.{first_value, found_of}
use Rattle.clap.proofs.TakesLemmas.{passed_up}
use Rattle.mc_options.specs.Numbers.{default_line, size_given}
use Rattle.mc_options.proofs.Behind.{step}
use Rattle.mc_options.proofs.options.sizes_in.Goals as goal

pub returns-in_err-budget-clause-refused : goal.returns-in_err-budget-clause-refused
returns-in_err-budget-clause-refused c =
    passed_up c.from_residual.result c.in_err-budget.field-0.0 _ c.from_residual.ensures.1
    (c.in_err-budget.ensures.refused.0, step _ _ _ c.in_err-budget.ensures.refused.1)

pub returns-in_err-value-clause-refused : goal.returns-in_err-value-clause-refused
returns-in_err-value-clause-refused c =
    passed_up c.from_residual-in_err-value.result c.in_err-value.field-0.0 _ c.from_residual-in_err-value.ensures.1 (
      c.in_err-value.ensures.refused.0,
      step _ _ _ c.in_ok-budget.ensures.given ∙ step _ _ _ c.in_err-value.ensures.refused.1,
    )

pub returns-in_err-line-clause-refused : goal.returns-in_err-line-clause-refused
returns-in_err-line-clause-refused c =
    let given = first_value (found_of c.args.matches.now) in
    let longest = sym (c.default_line-longest.ensures.value ∙ ap default_line c.profile_in-profile.ensures) in
    let line = ap (λ (most : ℕ). size_given given (codes "line-limit") 2048 most 8388608) longest in
    passed_up c.from_residual-in_err-line.result c.in_err-line.field-0.0 _ c.from_residual-in_err-line.ensures.1 (
      c.in_err-line.ensures.refused.0,
      step _ _ _ c.in_ok-budget.ensures.given
          ∙ (step _ _ _ c.in_ok-value.ensures.given ∙ step _ _ _ (line ∙ c.in_err-line.ensures.refused.1)),
    )

pub returns-in_err-window-clause-refused : goal.returns-in_err-window-clause-refused
returns-in_err-window-clause-refused c =
    let given = first_value (found_of c.args.matches.now) in
    let longest = sym (c.default_line-longest.ensures.value ∙ ap default_line c.profile_in-profile.ensures) in
    let line = ap (λ (most : ℕ). size_given given (codes "line-limit") 2048 most 8388608) longest in
    passed_up c.from_residual-in_err-window.result c.in_err-window.field-0.0 _ c.from_residual-in_err-window.ensures.1 (
      c.in_err-window.ensures.refused.0,
      step _ _ _ c.in_ok-budget.ensures.given
          ∙ (step _ _ _ c.in_ok-value.ensures.given
          ∙ (step _ _ _ (line ∙ c.in_ok-line.ensures.given) ∙ step _ _ _ c.in_err-window.ensures.refused.1)),
    )

pub returns-clause-given : goal.returns-clause-given
returns-clause-given c =
    let given = first_value (found_of c.args.matches.now) in
    let longest = sym (c.default_line-longest.ensures.value ∙ ap default_line c.profile_in-profile.ensures) in
    let line = ap (λ (most : ℕ). size_given given (codes "line-limit") 2048 most 8388608) longest in
    rw (c.profile_in-profile.ensures, c.is_flag-shutdown.ensures)
    (step _ _ _ c.in_ok-budget.ensures.given
    ∙ (step _ _ _ c.in_ok-value.ensures.given
    ∙ (step _ _ _ (line ∙ c.in_ok-line.ensures.given) ∙ step _ _ _ c.in_ok-window.ensures.given)))

pub returns-clause-within : goal.returns-clause-within
returns-clause-within c = record {
  seats = (c.requires.least, c.requires.greatest);
  shards = (c.in_ok-budget.ensures.within.0, c.in_ok-budget.ensures.within.1);
  bytes = c.in_ok-budget.ensures.within.2;
  ring = (omega arith, omega arith);
  value = c.in_ok-value.ensures.within;
  line = c.in_ok-line.ensures.within;
  window = c.in_ok-window.ensures.within;
}
