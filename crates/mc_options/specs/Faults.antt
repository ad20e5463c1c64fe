-- Errors of the command line, and the exit status.
use Rattle.std.specs.Prelude.{ℕ, ◌≡◌, List, [], Err}
use Rattle.clap.specs.Words.{HasKind, kind_of}
use Rattle.clap.specs.declared.error.kind.ErrorKind.{ErrorKind}
use Rattle.clap.specs.declared.error.kind.ErrorKind.TheVariants.{DisplayHelp, OutOfMemory}
use Rattle.mc_options.specs.declared.error.OptionError.{OptionError}
use Rattle.mc_options.specs.declared.error.OptionError.TheVariants.{Call}
use Rattle.mc_options.specs.Program.{word_faults}
use Rattle.mc_options.specs.Wrong.{wrong_of}
use Rattle.mc_options.specs.Calls.{call_by, given_in, places_in}

-- the exit status after an error of parsing: 0 for help, 1 if memory was refused
abbrev pub word_status : ErrorKind → ℕ
word_status DisplayHelp = 0
word_status OutOfMemory = 1
word_status kind = 2

abbrev pub status_of : OptionError → ℕ
status_of (Call error) = word_status (kind_of error)
status_of fault = 2

-- The error is in the values of options, not in their names.
abbrev pub IsOfOptions : OptionError → Type 0
IsOfOptions (Call error) = ⊥
IsOfOptions fault = Unit {0}

-- The words are no valid options, or memory was refused; or they are valid, and this is the first error in
-- their values.
abbrev pub IsFaultOf : List (List ℕ) → OptionError → Type 0
IsFaultOf words (Call error) = HasKind (word_faults words) error
IsFaultOf words fault = (word_faults words ≡ []) × (call_by (given_in words) (places_in words) ≡ Err (wrong_of fault))
