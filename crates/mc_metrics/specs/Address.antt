-- The address of the metrics, from the word that gives it.
use Rattle.std.specs.Prelude.{ℕ, List, [], ◌++◌, codes, nat_eq, if◌then◌else◌}
use Rattle.std.specs.List.{list_any, starts_with}

-- the text to put before the word: 127.0.0.1 if it has no host, as a word without a colon or with a leading
-- one
abbrev pub host_before : List ℕ → List ℕ
host_before word =
    if starts_with nat_eq word (codes ":") then codes "127.0.0.1"
    else if list_any (λ byte. nat_eq byte 58) word then [] else codes "127.0.0.1:"

abbrev pub address_of : List ℕ → List ℕ
address_of word = host_before word ++ word
