-- The messages of the program once it listens.
use Rattle.std.specs.Prelude.{ℕ, List, codes}
use Rattle.mc_command.specs.declared.rules.Profile.{Profile}
use Rattle.mc_command.specs.declared.rules.Profile.TheVariants.{DropIn, Own}

-- the name of the server's rules
abbrev pub rules_of : Profile → List ℕ
rules_of Own = codes "native rules"
rules_of DropIn = codes "memcached's rules"
