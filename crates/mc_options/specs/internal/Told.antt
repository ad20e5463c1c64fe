-- An option, as the table of options describes it.
use Rattle.std.specs.Prelude.{ℕ, List, Option, None, Some, codes, length, nat_eq, if◌then◌else◌}
use Rattle.std.specs.List.{ends_with}
use Rattle.clap.specs.Words.{Rule}
use Rattle.clap.specs.declared.builder.ArgAction.{ArgAction}
use Rattle.clap.specs.declared.builder.ArgAction.TheVariants.{Append, Set}
use Rattle.clap.specs.declared.builder.arg.Arg.{Arg}
use Rattle.mc_options.specs.Program.{flag_rule, valued_rule, with_letter}

-- how repetitions of an option with this metavariable are handled: values are collected, or a repetition is
-- refused
abbrev pub action_of : List ℕ → ArgAction
action_of value = if ends_with nat_eq value (codes "..") then Append else Set

-- the rule of the option of this name and letter; it is a flag if its metavariable is empty
abbrev pub told_rule : List ℕ → Option ℕ → List ℕ → Rule
told_rule name letter value =
    with_letter letter (if nat_eq (length value) 0 then flag_rule name else valued_rule (action_of value) name)

-- the option with this short letter
abbrev pub by_letter : Option ℕ → Arg → Arg
by_letter None arg = arg
by_letter (Some letter) arg = record arg { short = Some letter }
