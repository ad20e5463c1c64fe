-- Each row of the table that takes memory may be given up.
use Rattle.std.proofs.Common.{ℕ, ◌^◌, Bool, true, false, cond, List, [], ◌∷◌, Option, Some, None, refl, pos, Result, Ok}
use Rattle.std.proofs.Common.{Err, IsTrue}
use Rattle.std.specs.List.{list_all}
use Rattle.std.specs.Option.{ok_or}
use Rattle.mc_wire.specs.Number.{number_of, integer_of}
use Rattle.mc_command.specs.declared.command.Command.{Command}
use Rattle.mc_command.specs.declared.command.Command.TheVariants.{FlushAll}
use Rattle.mc_command.specs.declared.command.StoreMode.{StoreMode}
use Rattle.mc_command.specs.declared.command.Direction.{Direction}
use Rattle.mc_command.specs.declared.error.CommandError.{CommandError}
use Rattle.mc_command.specs.declared.error.CommandError.TheVariants.{BadFormat, BadKey, WordCount}
use Rattle.mc_command.specs.Command.{refusal_takes_memory}
use Rattle.mc_command.specs.Field.{exptime_by, exptime_of, is_key, is_noreply, key_of, last_word_of, noreply_of}
use Rattle.mc_command.specs.Field.{signed_of, then_of, unsigned_of, word_count_refusal}
use Rattle.mc_command.specs.Rules.{is_drop_in}
use Rattle.mc_command.specs.declared.rules.Rules.{Rules}
use Rattle.mc_command.specs.Blocks.{MayBeGivenUp}
use Rattle.mc_command.specs.Classic.{storage_words, compare_of, cas_words, keys_of, get_words, gat_words, is_zero}
use Rattle.mc_command.specs.Classic.{delete_words, count_words, touch_words, flush_of, flush_words}

-- a field whose fault may be given up
abbrev pub Yields : {A : Type 0} → Result A CommandError → Type 0
Yields (Ok value) = Unit {0}
Yields (Err refusal) = IsTrue (refusal_takes_memory refusal)

pub yields_cond : {A : Type 0} (test : Bool) (one other : Result A CommandError) → Yields one → Yields other
    → Yields (cond test one other)
yields_cond true one other first second = first
yields_cond false one other first second = second

-- A field that cannot be read has a fault that may be given up, where its refusal is one that may be.
pub yields_or : {A : Type 0} (found : Option A) (refusal : CommandError) → IsTrue (refusal_takes_memory refusal)
    → Yields (ok_or found refusal)
yields_or (Some value) refusal takes = tt
yields_or None refusal takes = takes

-- A word that is no key is a fault that may be given up where memory runs out.
pub yields_key : (word : List ℕ) → Yields (key_of word)
yields_key word = yields_cond (is_key word) (Ok word) (Err BadKey) tt refl

pub yields_keys : (words : List (List ℕ)) → Yields (keys_of words)
unfolding keys_of
yields_keys words = yields_cond (list_all is_key words) (Ok words) (Err BadKey) tt refl

pub yields_number : (bound : ℕ) (word : List ℕ) → Yields (unsigned_of bound word)
yields_number bound word = yields_or (number_of bound word) BadFormat refl

pub yields_signed : (word : List ℕ) → Yields (signed_of word)
yields_signed word = yields_or (integer_of word) BadFormat refl

pub yields_then : {A B : Type 0} (read : Result A CommandError) (rest : A → Result B CommandError) → Yields read
    → ((value : A) → Yields (rest value)) → Yields (then_of read rest)
yields_then (Ok value) rest yields each = each value
yields_then (Err refusal) rest yields each = yields

pub yields_exptime : (rules : Rules) (word : List ℕ) → Yields (exptime_of rules word)
yields_exptime rules word =
    yields_then (signed_of word) (λ number. Ok (exptime_by rules number)) (yields_signed word) (λ number. tt)

pub yields_compare : (unique : Option (List ℕ)) → Yields (compare_of unique)
yields_compare None = tt
yields_compare (Some word) =
    yields_then (unsigned_of (2 ^ 64) word) (λ unique. Ok (Some unique)) (yields_number (2 ^ 64) word) (λ unique. tt)

pub yields_noreply : (word : Option (List ℕ)) → Yields (noreply_of word)
yields_noreply None = tt
yields_noreply (Some word) = yields_cond (is_noreply word) (Ok true) (Err BadFormat) tt refl

pub yields_last : (rules : Rules) (word : Option (List ℕ)) → Yields (last_word_of rules word)
yields_last rules None = tt
yields_last rules (Some word) =
    yields_cond (is_drop_in rules) (Ok (is_noreply word)) (noreply_of (Some word)) tt (yields_noreply (Some word))

takes_either : (drop_in : Bool) → IsTrue (refusal_takes_memory (cond drop_in WordCount BadFormat))
takes_either true = refl
takes_either false = refl

-- a line whose words are too few or too many
pub takes_words : (rules : Rules) → IsTrue (refusal_takes_memory (word_count_refusal rules))
unfolding word_count_refusal
takes_words rules = takes_either (is_drop_in rules)

-- A line may be given up where the fault of its next field may be, and so may what comes of each value of
-- that field.
pub may_then : {A : Type 0} (read : Result A CommandError) (rest : A → Result Command CommandError) → Yields read
    → ((value : A) → MayBeGivenUp (rest value)) → MayBeGivenUp (then_of read rest)
may_then (Ok value) rest yields may = may value
may_then (Err refusal) rest yields may = yields

may_cond : (test : Bool) (one other : Result Command CommandError) → MayBeGivenUp one → MayBeGivenUp other
    → MayBeGivenUp (cond test one other)
may_cond true one other first second = first
may_cond false one other first second = second

pub ruleset readings = (may_then, yields_key, yields_keys, yields_number, yields_exptime, yields_compare, yields_last)

-- A line of `set`, `add`, `replace`, `append` or `prepend` may be given up, whatever its words are.
pub storage_may : (rules : Rules) (mode : StoreMode) (words : List (List ℕ))
    → MayBeGivenUp (storage_words rules mode words)
storage_may rules mode (key ∷ flags ∷ exptime ∷ count ∷ []) = search readings depth 8
storage_may rules mode (key ∷ flags ∷ exptime ∷ count ∷ noreply ∷ []) = search readings depth 8
storage_may rules mode words = takes_words rules

-- A line of `cas` may be given up, whatever its words are.
pub cas_may : (rules : Rules) (words : List (List ℕ)) → MayBeGivenUp (cas_words rules words)
cas_may rules (key ∷ flags ∷ exptime ∷ count ∷ unique ∷ []) = search readings depth 8
cas_may rules (key ∷ flags ∷ exptime ∷ count ∷ unique ∷ noreply ∷ []) = search readings depth 8
cas_may rules words = takes_words rules

-- A line of `get` or `gets` may be given up, whatever its words are.
pub get_may : (rules : Rules) (with_unique : Bool) (words : List (List ℕ))
    → MayBeGivenUp (get_words rules with_unique words)
get_may rules with_unique [] = takes_words rules
get_may rules with_unique (key ∷ keys) = search readings

-- A line of `gat` or `gats` may be given up, whatever its words are.
pub gat_may : (rules : Rules) (with_unique : Bool) (words : List (List ℕ))
    → MayBeGivenUp (gat_words rules with_unique words)
gat_may rules with_unique (exptime ∷ key ∷ keys) = search readings
gat_may rules with_unique words = takes_words rules

-- A line of `delete` may be given up, whatever its words are.
pub delete_may : (rules : Rules) (words : List (List ℕ)) → MayBeGivenUp (delete_words rules words)
delete_may rules (key ∷ []) = search readings
delete_may rules (key ∷ word ∷ []) =
    let told = yields_cond (is_zero word) (Ok false) (noreply_of (Some word)) tt (yields_noreply (Some word)) in
    may_then _ _ (yields_key key) (λ k. may_then _ _ told (λ n. refl))
delete_may rules (key ∷ word ∷ noreply ∷ []) =
    let told = yields_cond (is_zero word) (noreply_of (Some noreply)) (Err BadFormat) (yields_noreply (Some noreply))
    refl in
    may_then _ _ (yields_key key) (λ k. may_then _ _ told (λ n. refl))
delete_may rules words = takes_words rules

-- A line of `incr` or `decr` may be given up, whatever its words are.
pub count_may : (rules : Rules) (direction : Direction) (words : List (List ℕ))
    → MayBeGivenUp (count_words rules direction words)
count_may rules direction (key ∷ amount ∷ []) = search readings
count_may rules direction (key ∷ amount ∷ noreply ∷ []) = search readings
count_may rules direction words = takes_words rules

-- A line of `touch` may be given up, whatever its words are.
pub touch_may : (rules : Rules) (words : List (List ℕ)) → MayBeGivenUp (touch_words rules words)
touch_may rules (key ∷ exptime ∷ []) = search readings
touch_may rules (key ∷ exptime ∷ noreply ∷ []) = search readings
touch_may rules words = takes_words rules

-- A line of `flush_all` may be given up, whatever its words are.
pub flush_may : (rules : Rules) (words : List (List ℕ)) → MayBeGivenUp (flush_words rules words)
flush_may rules [] = refl
flush_may rules (word ∷ []) =
    may_cond (is_noreply word) (Ok (FlushAll (pos 0) true)) (flush_of rules word None) refl (search readings)
flush_may rules (delay ∷ noreply ∷ []) = search readings
flush_may rules words = takes_words rules
