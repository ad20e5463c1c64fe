-- The call is the given one, or its first error is reported.
use Rattle.std.proofs.Common.{option_map, ap, sym, ◌∙◌}
use Rattle.clap.proofs.TakesLemmas.{passed_up}
use Rattle.mc_options.specs.Wrong.{NotOfStdio}
use Rattle.mc_options.proofs.Behind.{start, step}
use Rattle.mc_options.proofs.options.stdio_in.Goals as goal

pub returns-in-Some-clause-refused : goal.returns-in-Some-clause-refused
returns-in-Some-clause-refused c =
    (tt, start NotOfStdio _ _ _ (sym c.first_given.ensures ∙ ap (option_map (λ name. name.now)) c.in-Some.is))

pub returns-in_err-at-clause-refused : goal.returns-in_err-at-clause-refused
returns-in_err-at-clause-refused c =
    let none = sym c.first_given.ensures ∙ ap (option_map (λ name. name.now)) c.in_default.is in
    passed_up c.from_residual.result c.in_err-at.field-0.0 _ c.from_residual.ensures.1
    (c.in_err-at.ensures.refused.0, start NotOfStdio _ _ _ none ∙ step _ _ _ c.in_err-at.ensures.refused.1)

pub returns-in_err-sizes-clause-refused : goal.returns-in_err-sizes-clause-refused
returns-in_err-sizes-clause-refused c =
    let none = sym c.first_given.ensures ∙ ap (option_map (λ name. name.now)) c.in_default.is in
    passed_up c.from_residual-in_err-sizes.result c.in_err-sizes.field-0.0 _ c.from_residual-in_err-sizes.ensures.1 (
      c.in_err-sizes.ensures.refused.0,
      start NotOfStdio _ _ _ none ∙ (step _ _ _ c.in_ok-at.ensures.given ∙ step _ _ _ c.in_err-sizes.ensures.refused.1),
    )

pub returns-clause-given : goal.returns-clause-given
returns-clause-given c =
    let none = sym c.first_given.ensures ∙ ap (option_map (λ name. name.now)) c.in_default.is in
    start NotOfStdio _ _ _ none ∙ (step _ _ _ c.in_ok-at.ensures.given ∙ step _ _ _ c.in_ok-sizes.ensures.given)

pub returns-clause-within : goal.returns-clause-within
returns-clause-within c = c.in_ok-sizes.ensures.within
