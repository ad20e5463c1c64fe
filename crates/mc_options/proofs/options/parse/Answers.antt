use Rattle.std.proofs.Common.{◌≡◌, true, map, refl, ap, subst, ◌∙◌}
use Rattle.std.specs.Prelude.{string_bytes}
use Rattle.std.proofs.lemmas.Result.{IfOk-weaker}
use Rattle.clap.specs.Words.{App, FailsBy, fault_of, is_simple, is_simple_and_free, matches_of}
use Rattle.clap.proofs.OnLiterals.{clap_on_literals}
use Rattle.mc_options.specs.Program.{program, rows_in, word_faults}
use Rattle.mc_options.proofs.options.parse.Goals as goal

-- clap's specification covers what the program accepts
program_is_simple : is_simple program ≡ true
unfolding program clap_on_literals
program_is_simple = refl

pub returns-clause-matches : goal.returns-clause-matches
unfolding rows_in
returns-clause-matches c =
    let is = c.in_ok-program.ensures in
    IfOk-weaker c.try_get_matches_from.result _ _
    (λ m h. (h (ap is_simple is ∙ program_is_simple)).0
    ∙ ap (λ (app : App). matches_of app (map string_bytes c.args.words.now)) is) c.try_get_matches_from.ensures.matches

-- and what it refuses
program_is_free : is_simple_and_free program ≡ true
unfolding program clap_on_literals
program_is_free = refl

pub returns-clause-call : goal.returns-clause-call
unfolding word_faults
returns-clause-call c =
    let is = c.in_ok-program.ensures in
    let fails = c.try_get_matches_from.ensures.kinds (ap is_simple_and_free is ∙ program_is_free) in
    subst (λ (app : App). FailsBy (fault_of app (map string_bytes c.args.words.now)) c.try_get_matches_from.result) is
    fails
