use Rattle.std.proofs.Common.{◌≡◌, ℕ, List, Err, map, subst}
use Rattle.std.specs.Prelude.{string_bytes}
use Rattle.std.proofs.lemmas.Result.{IfErr-weaker, IfOk-weaker}
use Rattle.mc_options.specs.Wrong.{wrong_of}
use Rattle.mc_options.specs.Calls.{SpellsOptions, call_by, given_in}
use Rattle.mc_options.proofs.Given.{found_given, refused_of_words}
use Rattle.mc_options.proofs.options.read_options.Goals as goal

pub returns-in-Ok-clause-given : goal.returns-in-Ok-clause-given
returns-in-Ok-clause-given c =
    let words = map string_bytes c.args.words.now in
    let given = found_given c.in-Ok.matches words c.in-Ok.ensures.matches in
    IfOk-weaker c.options_in.result _ _
    (λ options spells. subst (λ (places : List (List ℕ)). SpellsOptions (given_in words) places options)
    c.in-Ok.ensures.places (subst (λ g. SpellsOptions g (map (λ word. word.now) c.in-Ok.places.items) options) given
    spells))
    c.options_in.ensures.given

pub returns-in-Ok-clause-refused : goal.returns-in-Ok-clause-refused
returns-in-Ok-clause-refused c =
    let words = map string_bytes c.args.words.now in
    let given = found_given c.in-Ok.matches words c.in-Ok.ensures.matches in
    IfErr-weaker c.options_in.result _ _
    (λ fault refused.
    let same = subst (λ g. call_by g (map (λ word. word.now) c.in-Ok.places.items) ≡ Err (wrong_of fault)) given
    refused.1 in
    refused_of_words words fault c.in-Ok.ensures.call
    (subst (λ (places : List (List ℕ)). call_by (given_in words) places ≡ Err (wrong_of fault)) c.in-Ok.ensures.places
    same) refused.0)
    c.options_in.ensures.refused
