-- The options without a value: each is given or not.
use Rattle.std.specs.Prelude.{ℕ, List, Option, Bool, false, codes, if◌then◌else◌}
use Rattle.std.specs.Option.{option_map_or}
use Rattle.std.specs.Str.{bytes_eq}
use Rattle.mc_command.specs.declared.rules.Profile.{Profile}
use Rattle.mc_command.specs.declared.rules.Profile.TheVariants.{DropIn, Own}

-- An option without a value is given.
abbrev pub is_flag : (List ℕ → Option (List ℕ)) → List ℕ → Bool
is_flag given name = option_map_or (λ text. bytes_eq text (codes "true")) (given name) false

-- the protocol profile
abbrev pub profile_by : (List ℕ → Option (List ℕ)) → Profile
profile_by given = if is_flag given (codes "drop-in") then DropIn else Own
