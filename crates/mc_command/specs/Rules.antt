-- The parser's rules: the profile, and the limits of values and lines.
use Rattle.std.specs.Prelude.{ℕ, Bool, true, false}
use Rattle.mc_wire.specs.declared.TheConstants.{DEFAULT_LINE_LIMIT, DROP_IN_LINE_LIMIT}
use Rattle.mc_command.specs.declared.rules.Profile.{Profile}
use Rattle.mc_command.specs.declared.rules.Profile.TheVariants.{Own, DropIn}
use Rattle.mc_command.specs.declared.rules.Rules.{Rules}

-- the native rules, with this value limit and the default line limit
abbrev pub own : ℕ → Rules
own limit = record { profile = Own; value_limit = limit; line_limit = DEFAULT_LINE_LIMIT; shutdown = false }

-- memcached's rules, with this value limit and their default line limit
abbrev pub drop_in : ℕ → Rules
drop_in limit = record { profile = DropIn; value_limit = limit; line_limit = DROP_IN_LINE_LIMIT; shutdown = false }

-- whether a profile is that of memcached
abbrev pub follows_memcached : Profile → Bool
follows_memcached Own = false
follows_memcached DropIn = true

-- whether these are memcached's rules
abbrev pub is_drop_in : Rules → Bool
is_drop_in rules = follows_memcached rules.profile
