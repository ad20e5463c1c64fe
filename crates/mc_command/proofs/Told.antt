-- What the command table reads is never the refusal that memory ran out.
use Rattle.std.proofs.Common.{◌≡◌, ℕ, false, List, [], ◌∷◌, refl, Option, Some, None, Result, Ok, Err, IsTrue}
use Rattle.std.proofs.Common.{if◌then◌else◌}
use Rattle.std.specs.Option.{ok_or}
use Rattle.std.proofs.lemmas.Bool.{cond_both}
use Rattle.mc_command.specs.declared.command.Command.{Command}
use Rattle.mc_command.specs.declared.command.Command.TheVariants as command
use Rattle.mc_command.specs.declared.error.CommandError.{CommandError}
use Rattle.mc_command.specs.declared.command.StatsRequest.{StatsRequest}
use Rattle.mc_command.specs.declared.error.CommandError.TheVariants.{Memory, ShutdownDisabled, ShutdownMode, Unknown}
use Rattle.mc_command.specs.Command.{can_give_up, is_memory, is_memory_refusal, refusal_takes_memory}
use Rattle.mc_command.specs.Line.{Says}
use Rattle.mc_command.specs.Blocks.{whole_line, MayBeGivenUp}
use Rattle.mc_command.specs.Classic.{is_graceful, request_of, shutdown_of, shutdown_words, stats_words, verbosity_words}
use Rattle.mc_command.specs.Field.{then_of, word_count_refusal}
use Rattle.mc_command.specs.declared.rules.Rules.{Rules}
use Rattle.mc_command.specs.Rules.{is_drop_in}
use Rattle.mc_command.proofs.Lines.{Yields, readings, takes_words}

-- no refusal for memory that ran out
abbrev pub Told : Result Command CommandError → Type 0
Told (Ok command) = is_memory_refusal command ≡ false
Told (Err refusal) = is_memory refusal ≡ false

-- A fault that may be given up is not itself that memory ran out.
pub no_memory : (refusal : CommandError) → IsTrue (refusal_takes_memory refusal) → is_memory refusal ≡ false
no_memory Memory takes = absurd cc
no_memory other takes = refl

-- A command that may be given up is not itself the refusal that memory ran out.
pub no_memory_command : (asked : Command) → IsTrue (can_give_up asked) → is_memory_refusal asked ≡ false
no_memory_command (command.Refused refusal) may = no_memory refusal may
no_memory_command other may = refl

-- what may be given up is itself no such refusal
pub told_may : (asked : Result Command CommandError) → MayBeGivenUp asked → Told asked
told_may (Ok command) may = no_memory_command command may
told_may (Err refusal) may = no_memory refusal may

told_then : {A : Type 0} (read : Result A CommandError) (rest : A → Result Command CommandError) → Yields read
    → ((value : A) → Told (rest value)) → Told (then_of read rest)
told_then (Ok value) rest yields told = told value
told_then (Err refusal) rest yields told = no_memory refusal yields

-- The refusal of a line with too few or too many words is not that memory ran out.
pub words_told : (rules : Rules) → is_memory (word_count_refusal rules) ≡ false
words_told rules = no_memory (word_count_refusal rules) (takes_words rules)

-- A line of `verbosity` is never refused with "out of memory", whatever its words are.
pub verbosity_told : (rules : Rules) (words : List (List ℕ)) → Told (verbosity_words rules words)
verbosity_told rules (level ∷ []) = search (told_then, readings)
verbosity_told rules (level ∷ noreply ∷ []) = search (told_then, readings)
verbosity_told rules words = words_told rules

stats_read_told : (request : Option StatsRequest)
    → Told (then_of (ok_or request Unknown) (λ request. Ok (command.Stats request)))
stats_read_told (Some request) = refl
stats_read_told None = refl

-- A line of `stats` is never refused with "out of memory", whatever its words are.
pub stats_told : (rules : Rules) (words : List (List ℕ)) → Told (stats_words rules words)
stats_told rules words =
    cond_both (is_drop_in rules) (then_of (ok_or (request_of words) Unknown) (λ request. Ok (command.Stats request)))
    (Err Unknown) Told (λ drops. stats_read_told (request_of words)) (λ own. refl)

shutdown_of_told : (words : List (List ℕ)) → Told (shutdown_of words)
shutdown_of_told [] = refl
shutdown_of_told (mode ∷ []) =
    cond_both (is_graceful mode) (Ok command.Shutdown) (Err ShutdownMode) Told (λ mode. refl) (λ none. refl)
shutdown_of_told words = refl

-- A line of `shutdown` is never refused with "out of memory", whatever its words are.
pub shutdown_told : (rules : Rules) (words : List (List ℕ)) → Told (shutdown_words rules words)
shutdown_told rules words =
    cond_both (is_drop_in rules) (if rules.shutdown then shutdown_of words else Err ShutdownDisabled) (Err Unknown) Told
    (λ drops. cond_both rules.shutdown (shutdown_of words) (Err ShutdownDisabled) Told (λ may. shutdown_of_told words)
    (λ may_not. refl)) (λ own. refl)

-- a line without a block, read as it is
pub says_told : (asked read : Result Command CommandError) → read ≡ asked → Told asked
    → Says (whole_line asked) (whole_line read)
says_told (Ok command) read same told = rw same refl
says_told (Err refusal) read same told = rw (same, told) refl
