-- The options of the program, for the parser of the command line.
use Rattle.std.specs.Prelude.{ℕ, List, [], ◌∷◌, Option, Some, None, codes, fold, slice_get}
use Rattle.clap.specs.Words.{App, Kinds, Row, Rule, fault_of, matches_of, new_app, new_rule, with_rule}
use Rattle.clap.specs.declared.builder.ArgAction.{ArgAction}
use Rattle.clap.specs.declared.builder.ArgAction.TheVariants.{Append, Set, SetTrue}

-- an option with a value, by its name behind two dashes: once, or collecting every value
abbrev pub valued_rule : ArgAction → List ℕ → Rule
valued_rule action name = record (new_rule name) { long = Some name; action = Some action; value_names = 1 }

abbrev pub option_rule : List ℕ → Rule
option_rule name = valued_rule Set name

abbrev pub list_rule : List ℕ → Rule
list_rule name = valued_rule Append name

-- a flag
abbrev pub flag_rule : List ℕ → Rule
flag_rule name = record (new_rule name) { long = Some name; action = Some SetTrue }

-- the option with this short letter
abbrev pub with_letter : Option ℕ → Rule → Rule
with_letter None rule = rule
with_letter (Some letter) rule = record rule { short = Some letter }

-- the option with the short letter of this text
abbrev pub lettered : List ℕ → Rule → Rule
lettered text rule = with_letter (slice_get text 0) rule

-- a program with these options added
abbrev pub with_rules : App → List Rule → App
with_rules app rules = fold with_rule app rules

abbrev pub call_rules : List Rule
call_rules =
    lettered (codes "l") (list_rule (codes "listen")) ∷ flag_rule (codes "stdio") ∷ option_rule (codes "replay") ∷
    option_rule (codes "at")
    ∷ flag_rule (codes "version") ∷ flag_rule (codes "plan") ∷ []

abbrev pub limit_rules : List Rule
limit_rules =
    lettered (codes "t") (option_rule (codes "shards")) ∷ lettered (codes "c") (option_rule (codes "seats")) ∷
    option_rule (codes "bytes") ∷ option_rule (codes "memory")
    ∷ lettered (codes "I") (option_rule (codes "value-limit")) ∷ option_rule (codes "line-limit") ∷ option_rule
    (codes "window") ∷ option_rule (codes "client-memory") ∷ option_rule (codes "connections")
    ∷ flag_rule (codes "drop-in") ∷ option_rule (codes "items") ∷ []

abbrev pub watch_rules : List Rule
watch_rules =
    option_rule (codes "idle-timeout") ∷ lettered (codes "v") (flag_rule (codes "verbose")) ∷ option_rule
    (codes "metrics") ∷ option_rule (codes "drain") ∷ []

-- the remaining options of memcached; a letter has memcached's meaning
abbrev pub memcached_rules : List Rule
memcached_rules =
    lettered (codes "p") (option_rule (codes "port")) ∷ lettered (codes "m") (option_rule (codes "memory-limit")) ∷
    lettered (codes "U") (option_rule (codes "udp-port"))
    ∷ lettered (codes "s") (option_rule (codes "unix-socket")) ∷ lettered (codes "a") (option_rule (codes "unix-mask"))
    ∷ lettered (codes "A") (flag_rule (codes "enable-shutdown")) ∷ lettered (codes "d") (flag_rule (codes "daemon")) ∷
    lettered (codes "u") (option_rule (codes "user"))
    ∷ lettered (codes "P") (option_rule (codes "pidfile")) ∷ []

unfoldable pub program : App
program =
    with_rules (with_rules (with_rules (with_rules (new_app (codes "mcd")) call_rules) limit_rules) watch_rules)
    memcached_rules

-- the errors of the words as options of the program; none if they are valid
unfoldable pub word_faults : List (List ℕ) → Kinds
word_faults words = fault_of program words

-- the values in the words
unfoldable pub rows_in : List (List ℕ) → List Row
rows_in words = matches_of program words
