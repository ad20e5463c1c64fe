-- The address to listen on, from the word that gives it.
use Rattle.std.specs.Prelude.{ℕ, ◌^◌, ◌==◌, List, [], ◌++◌, ◌&&◌, ◌||◌, Bool, Option, Some, None, not, codes, drop}
use Rattle.std.specs.Prelude.{is_some, length, nat_eq, nat_lt, if◌then◌else◌}
use Rattle.std.specs.List.{count_by, ends_with, starts_with}
use Rattle.mc_wire.specs.Number.{number_of}

-- how many colons the word has
abbrev pub colons_in : List ℕ → ℕ
colons_in word = count_by (λ byte. byte == 58) word

-- the word is a port alone
abbrev pub is_port : List ℕ → Bool
is_port word = is_some (number_of (2 ^ 64) word)

-- the word is an IPv6 address without brackets
abbrev pub is_bare : List ℕ → Bool
is_bare word = not (starts_with nat_eq word (codes "[")) && nat_lt 1 (colons_in word)

-- the text to insert before the word: 127.0.0.1 if it has no host, or a missing bracket
abbrev pub before : List ℕ → List ℕ
before word =
    if is_port word then codes "127.0.0.1:" else if is_bare word then codes "["
    else if starts_with nat_eq word (codes ":") then codes "127.0.0.1" else []

-- the text to insert between the word and the default port; empty if it has a port
abbrev pub behind : List ℕ → List ℕ
behind word =
    if is_port word then [] else if is_bare word then codes "]:"
    else if nat_eq (colons_in word) 0 || ends_with nat_eq word (codes "]") then codes ":" else []

-- the port that the word lacks
abbrev pub lacking : List ℕ → List ℕ → List ℕ
lacking word port = if nat_eq (length (behind word)) 0 then [] else port

-- host and port, as the system takes them
abbrev pub address_of : List ℕ → List ℕ → List ℕ
address_of word port = before word ++ (word ++ (behind word ++ lacking word port))

-- the path of a Unix socket, if the word has one
abbrev pub path_of : List ℕ → Option (List ℕ)
path_of word = if starts_with nat_eq word (codes "unix:") then Some (drop 5 word) else None
