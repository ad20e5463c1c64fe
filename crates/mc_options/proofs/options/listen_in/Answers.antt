-- The call is the given one, or its first error is reported.
use Rattle.std.proofs.Common.{option_map, ap, sym, ◌∙◌}
use Rattle.clap.proofs.TakesLemmas.{passed_up}
use Rattle.mc_options.specs.Wrong.{NotOfTcp}
use Rattle.mc_options.proofs.Behind.{start, step}
use Rattle.mc_options.proofs.options.listen_in.Goals as goal

pub returns-in-Some-clause-refused : goal.returns-in-Some-clause-refused
returns-in-Some-clause-refused c =
    (tt, start NotOfTcp _ _ _ (sym c.first_given.ensures ∙ ap (option_map (λ name. name.now)) c.in-Some.is))

pub returns-in_err-seats-clause-refused : goal.returns-in_err-seats-clause-refused
returns-in_err-seats-clause-refused c =
    let none = sym c.first_given.ensures ∙ ap (option_map (λ name. name.now)) c.in_default.is in
    passed_up c.from_residual.result c.in_err-seats.field-0.0 _ c.from_residual.ensures.1
    (c.in_err-seats.ensures.refused.0, start NotOfTcp _ _ _ none ∙ step _ _ _ c.in_err-seats.ensures.refused.1)

pub returns-in_err-connections-clause-refused : goal.returns-in_err-connections-clause-refused
returns-in_err-connections-clause-refused c =
    let none = sym c.first_given.ensures ∙ ap (option_map (λ name. name.now)) c.in_default.is in
    passed_up c.from_residual-in_err-connections.result c.in_err-connections.field-0.0 _
    c.from_residual-in_err-connections.ensures.1 (
      c.in_err-connections.ensures.refused.0,
      start NotOfTcp _ _ _ none
          ∙ (step _ _ _ c.in_ok-seats.ensures.given ∙ step _ _ _ c.in_err-connections.ensures.refused.1),
    )

pub returns-in_err-idle_timeout-clause-refused : goal.returns-in_err-idle_timeout-clause-refused
returns-in_err-idle_timeout-clause-refused c =
    let none = sym c.first_given.ensures ∙ ap (option_map (λ name. name.now)) c.in_default.is in
    passed_up c.from_residual-in_err-idle_timeout.result c.in_err-idle_timeout.field-0.0 _
    c.from_residual-in_err-idle_timeout.ensures.1 (
      c.in_err-idle_timeout.ensures.refused.0,
      start NotOfTcp _ _ _ none
          ∙ (step _ _ _ c.in_ok-seats.ensures.given
          ∙ (step _ _ _ c.in_ok-connections.ensures.given ∙ step _ _ _ c.in_err-idle_timeout.ensures.refused.1)),
    )

pub returns-in_err-drain-clause-refused : goal.returns-in_err-drain-clause-refused
returns-in_err-drain-clause-refused c =
    let none = sym c.first_given.ensures ∙ ap (option_map (λ name. name.now)) c.in_default.is in
    passed_up c.from_residual-in_err-drain.result c.in_err-drain.field-0.0 _ c.from_residual-in_err-drain.ensures.1 (
      c.in_err-drain.ensures.refused.0,
      start NotOfTcp _ _ _ none
          ∙ (step _ _ _ c.in_ok-seats.ensures.given
          ∙ (step _ _ _ c.in_ok-connections.ensures.given
          ∙ (step _ _ _ c.in_ok-idle_timeout.ensures.given ∙ step _ _ _ c.in_err-drain.ensures.refused.1))),
    )

pub returns-in_err-sizes-clause-refused : goal.returns-in_err-sizes-clause-refused
returns-in_err-sizes-clause-refused c =
    let none = sym c.first_given.ensures ∙ ap (option_map (λ name. name.now)) c.in_default.is in
    passed_up c.from_residual-in_err-sizes.result c.in_err-sizes.field-0.0 _ c.from_residual-in_err-sizes.ensures.1 (
      c.in_err-sizes.ensures.refused.0,
      start NotOfTcp _ _ _ none
          ∙ (step _ _ _ c.in_ok-seats.ensures.given
          ∙ (step _ _ _ c.in_ok-connections.ensures.given
          ∙ (step _ _ _ c.in_ok-idle_timeout.ensures.given
          ∙ (step _ _ _ c.in_ok-drain.ensures.given ∙ step _ _ _ c.in_err-sizes.ensures.refused.1)))),
    )

pub returns-in_err-client_memory-clause-refused : goal.returns-in_err-client_memory-clause-refused
returns-in_err-client_memory-clause-refused c =
    let none = sym c.first_given.ensures ∙ ap (option_map (λ name. name.now)) c.in_default.is in
    passed_up c.from_residual-in_err-client_memory.result c.in_err-client_memory.field-0.0 _
    c.from_residual-in_err-client_memory.ensures.1 (
      c.in_err-client_memory.ensures.refused.0,
      start NotOfTcp _ _ _ none
          ∙ (step _ _ _ c.in_ok-seats.ensures.given
          ∙ (step _ _ _ c.in_ok-connections.ensures.given
          ∙ (step _ _ _ c.in_ok-idle_timeout.ensures.given
          ∙ (step _ _ _ c.in_ok-drain.ensures.given
          ∙ (step _ _ _ c.in_ok-sizes.ensures.given ∙ step _ _ _ c.in_err-client_memory.ensures.refused.1))))),
    )

pub returns-in_err-port-clause-refused : goal.returns-in_err-port-clause-refused
returns-in_err-port-clause-refused c =
    let none = sym c.first_given.ensures ∙ ap (option_map (λ name. name.now)) c.in_default.is in
    passed_up c.from_residual-in_err-port.result c.in_err-port.field-0.0 _ c.from_residual-in_err-port.ensures.1 (
      c.in_err-port.ensures.refused.0,
      start NotOfTcp _ _ _ none
          ∙ (step _ _ _ c.in_ok-seats.ensures.given
          ∙ (step _ _ _ c.in_ok-connections.ensures.given
          ∙ (step _ _ _ c.in_ok-idle_timeout.ensures.given
          ∙ (step _ _ _ c.in_ok-drain.ensures.given
          ∙ (step _ _ _ c.in_ok-sizes.ensures.given
          ∙ (step _ _ _ c.in_ok-client_memory.ensures.given ∙ step _ _ _ c.in_err-port.ensures.refused.1)))))),
    )

pub returns-in_err-mode-clause-refused : goal.returns-in_err-mode-clause-refused
returns-in_err-mode-clause-refused c =
    let none = sym c.first_given.ensures ∙ ap (option_map (λ name. name.now)) c.in_default.is in
    passed_up c.from_residual-in_err-mode.result c.in_err-mode.field-0.0 _ c.from_residual-in_err-mode.ensures.1 (
      c.in_err-mode.ensures.refused.0,
      start NotOfTcp _ _ _ none
          ∙ (step _ _ _ c.in_ok-seats.ensures.given
          ∙ (step _ _ _ c.in_ok-connections.ensures.given
          ∙ (step _ _ _ c.in_ok-idle_timeout.ensures.given
          ∙ (step _ _ _ c.in_ok-drain.ensures.given
          ∙ (step _ _ _ c.in_ok-sizes.ensures.given
          ∙ (step _ _ _ c.in_ok-client_memory.ensures.given
          ∙ (step _ _ _ c.in_ok-port.ensures.given ∙ step _ _ _ c.in_err-mode.ensures.refused.1))))))),
    )

pub returns-clause-given : goal.returns-clause-given
returns-clause-given c =
    let none = sym c.first_given.ensures ∙ ap (option_map (λ name. name.now)) c.in_default.is in
    rw (c.get_str.ensures, c.is_flag.ensures, c.get_str-2.ensures, c.is_flag-2.ensures, c.is_one_ignored.ensures)
    (start NotOfTcp _ _ _ none
    ∙ (step _ _ _ c.in_ok-seats.ensures.given
    ∙ (step _ _ _ c.in_ok-connections.ensures.given
    ∙ (step _ _ _ c.in_ok-idle_timeout.ensures.given
    ∙ (step _ _ _ c.in_ok-drain.ensures.given
    ∙ (step _ _ _ c.in_ok-sizes.ensures.given
    ∙ (step _ _ _ c.in_ok-client_memory.ensures.given
    ∙ (step _ _ _ c.in_ok-port.ensures.given ∙ step _ _ _ c.in_ok-mode.ensures.given))))))))

pub returns-clause-within : goal.returns-clause-within
returns-clause-within c = c.in_ok-sizes.ensures.within
