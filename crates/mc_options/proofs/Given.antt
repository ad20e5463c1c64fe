-- What the words of a command line give.
use Rattle.std.proofs.Common.{◌≡◌, ℕ, List, [], Err, ap, ◌∙◌}
use Rattle.clap.specs.Words.{first_of, first_value, found_of, rows_of}
use Rattle.clap.specs.declared.parser.matches.ArgMatches.{ArgMatches}
use Rattle.clap.proofs.WalkLemmas.{first_value-rows}
use Rattle.mc_options.specs.Program.{rows_in, word_faults}
use Rattle.mc_options.specs.Wrong.{wrong_of}
use Rattle.mc_options.specs.Calls.{call_by, given_in, places_in}
use Rattle.mc_options.specs.Faults.{IsFaultOf, IsOfOptions}
use Rattle.mc_options.specs.declared.error.OptionError.{OptionError}
use Rattle.mc_options.specs.declared.error.OptionError.TheVariants.{Call, Items, Mode, NotOfReplay, NotOfStdio}
use Rattle.mc_options.specs.declared.error.OptionError.TheVariants.{NotOfTcp, Number, Size, TwoBudgets}

-- the options are read of what was found
pub found_given : (matches : ArgMatches) (words : List (List ℕ)) → rows_of (found_of matches) ≡ rows_in words
    → first_value (found_of matches) ≡ given_in words
found_given matches words rows =
    let each : (name : List ℕ) → first_value (found_of matches) name ≡ first_of name (rows_in words) =
    λ name. first_value-rows (found_of matches) name ∙ ap (first_of name) rows in
    λ i name. each name i

-- what is wrong with what is given is wrong with the words
pub refused_of_words : (words : List (List ℕ)) (fault : OptionError) → word_faults words ≡ []
    → call_by (given_in words) (places_in words) ≡ Err (wrong_of fault) → IsOfOptions fault → IsFaultOf words fault
refused_of_words words (Call error) none wrong of_options = absurd of_options
refused_of_words words Items none wrong of_options = (none, wrong)
refused_of_words words (NotOfReplay option) none wrong of_options = (none, wrong)
refused_of_words words (NotOfStdio option) none wrong of_options = (none, wrong)
refused_of_words words (NotOfTcp option) none wrong of_options = (none, wrong)
refused_of_words words TwoBudgets none wrong of_options = (none, wrong)
refused_of_words words (Number option word least most) none wrong of_options = (none, wrong)
refused_of_words words (Size option word least most) none wrong of_options = (none, wrong)
refused_of_words words (Mode word) none wrong of_options = (none, wrong)
