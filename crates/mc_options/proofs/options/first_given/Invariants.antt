-- The remaining names have the first given one in common with all.
use Rattle.std.proofs.Common.{◌≡◌, find, map, drop}
use Rattle.clap.specs.Words.{first_value, found_of}
use Rattle.mc_options.specs.Flags.{is_flag}
use Rattle.mc_options.specs.Calls.{first_given}
use Rattle.mc_options.proofs.options.first_given.Given as goal

abbrev pub invariant-loop-option : goal.invariant-loop-option
invariant-loop-option l =
    first_given (first_value (found_of l.matches)) (map (λ name. name.now) (drop l.option-index l.options))
    (map (λ name. name.now) l.flags)
    ≡ first_given (first_value (found_of l.matches)) (map (λ name. name.now) l.options) (map (λ name. name.now) l.flags)

abbrev pub invariant-loop-flag : goal.invariant-loop-flag
invariant-loop-flag l =
    find (is_flag (first_value (found_of l.matches))) (map (λ name. name.now) (drop l.flag-index l.flags))
    ≡ first_given (first_value (found_of l.matches)) (map (λ name. name.now) l.options) (map (λ name. name.now) l.flags)
