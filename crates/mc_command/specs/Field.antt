-- The fields of a line: each is a value or an error (protocol.txt, "Keys", "Storage commands").
use Rattle.std.specs.Prelude.{ℕ, ◌≡◌, ◌≢◌, Bool, true, false, List, Option, Some, None, is_none, codes, ℤ}
use Rattle.std.specs.Prelude.{if◌then◌else◌, MatchResult, Result, Ok, Err}
use Rattle.std.specs.List.{AllByRecursion}
use Rattle.std.specs.Option.{ok_or}
use Rattle.std.specs.Int.{int_wrap, w32}
use Rattle.std.specs.Str.{bytes_eq}
use Rattle.mc_wire.specs.Key.{key_fault}
use Rattle.mc_wire.specs.Number.{number_of, integer_of}
use Rattle.mc_wire.specs.declared.error.WireError.{WireError}
use Rattle.mc_wire.specs.declared.error.WireError.TheVariants as wire
use Rattle.mc_command.specs.declared.error.CommandError.{CommandError}
use Rattle.mc_command.specs.declared.error.CommandError.TheVariants.{BadFormat, BadKey, Memory, WordCount}
use Rattle.mc_command.specs.Rules.{is_drop_in}
use Rattle.mc_command.specs.declared.rules.Rules.{Rules}

-- the refusal for an error in a word
abbrev pub refusal_for : WireError → CommandError
refusal_for wire.NoKey = BadKey
refusal_for wire.KeyTooLong = BadKey
refusal_for wire.KeyByte = BadKey
refusal_for wire.NotBase64 = BadKey
refusal_for wire.NotNumber = BadFormat
refusal_for wire.Memory = Memory

-- a key word
unfoldable pub is_key : List ℕ → Bool
is_key word = is_none (key_fault word)

abbrev pub key_of : List ℕ → Result (List ℕ) CommandError
key_of word = if is_key word then Ok word else Err BadKey

-- words that are keys, each of them
abbrev pub AreKeys : List (List ℕ) → Type 0
AreKeys words = AllByRecursion (λ word. key_fault word ≡ None) words

-- an unsigned number below the bound
abbrev pub unsigned_of : ℕ → List ℕ → Result ℕ CommandError
unsigned_of bound word = ok_or (number_of bound word) BadFormat

-- a signed number of 64 bits
abbrev pub signed_of : List ℕ → Result ℤ CommandError
signed_of word = ok_or (integer_of word) BadFormat

-- the result of the next step, or the error of this one
abbrev pub then_of : {A B : Type 0} → Result A CommandError → (A → Result B CommandError) → Result B CommandError
then_of (Ok value) rest = rest value
then_of (Err refusal) rest = Err refusal

-- An exptime, or the token of a ttl. memcached keeps its low 32 bits, as a signed number: 4294967295 is -1.
abbrev pub exptime_by : Rules → ℤ → ℤ
exptime_by rules number = if is_drop_in rules then int_wrap w32 number else number

abbrev pub exptime_of : Rules → List ℕ → Result ℤ CommandError
exptime_of rules word = then_of (signed_of word) (λ number. Ok (exptime_by rules number))

-- the refusal of a line with too few or too many words; for memcached it is an unknown command
unfoldable pub word_count_refusal : Rules → CommandError
word_count_refusal rules = if is_drop_in rules then WordCount else BadFormat

abbrev pub is_noreply : List ℕ → Bool
is_noreply word = bytes_eq word (codes "noreply")

-- exactly `noreply`, or nothing
abbrev pub noreply_of : Option (List ℕ) → Result Bool CommandError
noreply_of None = Ok false
noreply_of (Some word) = if is_noreply word then Ok true else Err BadFormat

-- whether the word behind the fields is `noreply`; memcached ignores any other one
abbrev pub last_word_of : Rules → Option (List ℕ) → Result Bool CommandError
last_word_of rules None = Ok false
last_word_of rules (Some word) = if is_drop_in rules then Ok (is_noreply word) else noreply_of (Some word)

-- The result is the parsed value, unless memory was refused.
abbrev pub Reads : {A : Type 0} → Result A CommandError → Result A CommandError → Type 0
Reads asked read = MatchResult read (λ value. asked ≡ Ok value) (λ refusal. refusal ≢ Memory → asked ≡ Err refusal)
