-- The words of a common line, one after another.
use Rattle.std.proofs.Common.{◌≡◌, ◌^◌, ◌≤◌, ◌==◌, arith, ℕ, ℤ, Bool, false, true, not, List, [], ◌∷◌, Option, Some}
use Rattle.std.proofs.Common.{None, refl, sym, ap, ◌∙◌, Ok, Bor, codes, length}
use Rattle.std.specs.Option.{is_some, option_copied}
use Rattle.std.specs.List.{list_all}
use Rattle.mc_wire.specs.declared.error.WireError.{WireError}
use Rattle.std.proofs.lemmas.Bool.{le-ltb}
use Rattle.std.proofs.lemmas.Bool.Decides.{nat_tests}
use Rattle.mc_wire.specs.Key.{key_fault}
use Rattle.mc_wire.specs.Words.{words_of}
use Rattle.mc_command.specs.declared.command.Command.{Command}
use Rattle.mc_command.specs.declared.command.StoreMode.TheVariants as mode
use Rattle.mc_command.specs.declared.line.Line.TheVariants.{Whole, Data}
use Rattle.mc_command.specs.Field.{AreKeys, exptime_of, is_key, key_of, last_word_of, unsigned_of}
use Rattle.mc_command.specs.Blocks.{block_count, block_line, whole_line}
use Rattle.mc_command.specs.Classic.{get_words, keys_of, storage_line, storage_of}
use Rattle.mc_command.proofs.KeyLists.{each_key}
use Rattle.mc_command.proofs.StorageLines.{Steps, storage_says}
use Rattle.mc_command.specs.Meta.{line_with_block, line_without_block, meta_command_of}
use Rattle.mc_command.specs.declared.meta.MetaKind.TheVariants as kind
use Rattle.mc_fast.specs.FastCommand.{get_of, meta_get_of, set_of}
use Rattle.mc_command.specs.declared.rules.Profile.{Profile}
use Rattle.mc_command.specs.declared.rules.Profile.TheVariants.{Own, DropIn}
use Rattle.mc_command.specs.declared.rules.Rules.{Rules}

-- A number that is tested to be 0 is 0.
pub is_zero : (n : ℕ) → (n == 0) ≡ true → n ≡ 0
is_zero n e = grind (arith, nat_tests)

-- a text without bytes has no words
pub no_words : (text : List ℕ) → length text ≡ 0 → words_of text ≡ []
unfolding words_of
no_words [] e = refl
no_words (byte ∷ text) e = absurd cc

all_keys : (rules : Rules) (key : List ℕ) (others : List (List ℕ)) (with_unique : Bool) → key_fault key ≡ None
    → list_all is_key others ≡ true → whole_line (get_words rules with_unique (key ∷ others))
    ≡ Whole (get_of (key ∷ others) with_unique)
unfolding keys_of is_key
all_keys rules key others with_unique good all = rw (good, all)

-- words that are keys
pub get_line : (rules : Rules) (words others : List (List ℕ)) (key : Bor (List ℕ)) (with_unique : Bool)
    → Steps words (Some key) others → key_fault key.now ≡ None → list_all is_key others ≡ true →
    AreKeys others × (whole_line (get_words rules with_unique words) ≡ Whole (get_of (key.now ∷ others) with_unique))
get_line rules words others key with_unique first good all =
    (each_key others all, rw first (all_keys rules key.now others with_unique good all))

-- one word, which is a key
pub get_one_line : (rules : Rules) (words others : List (List ℕ)) (key : Bor (List ℕ)) (with_unique : Bool)
    → Steps words (Some key) others → key_fault key.now ≡ None → others ≡ [] →
    whole_line (get_words rules with_unique words) ≡ Whole (get_of (key.now ∷ []) with_unique)
get_one_line rules words others key with_unique first good none =
    rw (first, none) (all_keys rules key.now [] with_unique good refl)

key_is : (key : List ℕ) → key_fault key ≡ None → key_of key ≡ Ok key
unfolding is_key
key_is key good = rw good

set_of_words : (rules : Rules) (key flags exptime : List ℕ) (last : Option (List ℕ)) (f : ℕ) (x : ℤ) (noreply : Bool)
    → key_fault key ≡ None → unsigned_of (2 ^ 32) flags ≡ Ok f → exptime_of rules exptime ≡ Ok x
    → last_word_of rules last ≡ Ok noreply →
    storage_of rules mode.Set key flags exptime None last ≡ Ok (set_of key f x noreply [])
set_of_words rules key flags exptime last f x noreply good flags_are exptime_is noreply_is =
    rw (key_is key good, flags_are, exptime_is, noreply_is)

-- A block within the value limit belongs to its command.
pub within : (rules : Rules) (n : ℕ) (asked : Command) → n ≤ rules.value_limit → block_line rules (Some n) (Ok asked)
    ≡ Data asked n
within rules n asked small = rw (le-ltb rules.value_limit n small)

-- four words, and perhaps one more, each of which is right
pub set_line : (rules : Rules) (words a b c d e end : List (List ℕ)) (key flags exptime count : Bor (List ℕ))
    (last : Option (Bor (List ℕ))) (f : ℕ) (x : ℤ) (n : ℕ) (noreply : Bool) →
    Steps words (Some key) a → Steps a (Some flags) b → Steps b (Some exptime) c → Steps c (Some count) d
    → Steps d last e → Steps e None end →
    key_fault key.now ≡ None → unsigned_of (2 ^ 32) flags.now ≡ Ok f → exptime_of rules exptime.now ≡ Ok x
    → block_count rules count.now ≡ Some n → last_word_of rules (option_copied last) ≡ Ok noreply
    → n ≤ rules.value_limit →
    storage_line rules mode.Set words ≡ Data (set_of key.now f x noreply []) n
set_line rules words a b c d e end key flags exptime count last f x n noreply first second third fourth fifth none good
    flags_are exptime_is count_is noreply_is small =
    let asked : Command = set_of key.now f x noreply [] in
    let said = storage_says rules mode.Set words a b c d e end key flags exptime count last (Ok asked) first second
    third fourth fifth none (set_of_words rules key.now flags.now exptime.now (option_copied last) f x noreply good
    flags_are exptime_is noreply_is) in
    rw (count_is, within rules n asked small) at said

-- Where a test finds no value there is none.
pub none_is : {A : Type 0} (found : Option A) → is_some found ≡ false → found ≡ None
none_is None e = refl
none_is (Some x) e = cc

-- a word that was tested
pub no_fault : (word : List ℕ) (found : Option WireError) (test : Bool) → found ≡ key_fault word → test ≡ is_some found
    → test ≡ false → key_fault word ≡ None
no_fault word found test found_is test_is fails = sym found_is ∙ none_is found (sym test_is ∙ fails)

-- a word that was tested the other way
pub is_good : (word : List ℕ) (found : Option WireError) (test : Bool) → found ≡ key_fault word → is_some found
    ≡ not test → test ≡ true → key_fault word ≡ None
is_good word found test found_is test_is holds = sym found_is ∙ none_is found (test_is ∙ ap not holds)

value_flag : words_of (codes "v") ≡ codes "v" ∷ []
unfolding words_of
value_flag = refl

meta_by : (profile : Profile) (limit longest : ℕ) (may_end : Bool) (key : List ℕ) → key_of key ≡ Ok key
    → meta_command_of (record { profile = profile; value_limit = limit; line_limit = longest; shutdown = may_end })
    kind.Get key (codes "v" ∷ []) ≡ Ok (meta_get_of profile key)
meta_by Own limit longest may_end key good = rw good
meta_by DropIn limit longest may_end key good = rw good

meta_of : (rules : Rules) (key : List ℕ) → key_fault key ≡ None → meta_command_of rules kind.Get key (codes "v" ∷ [])
    ≡ Ok (meta_get_of rules.profile key)
meta_of rules key good = meta_by rules.profile rules.value_limit rules.line_limit rules.shutdown key (key_is key good)

-- a key, and the flag v
pub meta_get_value_line : (rules : Rules) (words rest : List (List ℕ)) (key : Bor (List ℕ)) (flags : List ℕ)
    → Steps words (Some key) rest → words_of flags ≡ rest → flags ≡ codes "v" → key_fault key.now ≡ None
    → line_without_block rules kind.Get words ≡ Whole (meta_get_of rules.profile key.now)
meta_get_value_line rules words rest key flags first rest_is is good =
    let all : words ≡ key.now ∷ codes "v" ∷ [] = first
    ∙ ap (λ l. key.now ∷ l) (sym rest_is ∙ (ap (λ f. words_of f) is ∙ value_flag)) in
    rw all (ap whole_line (meta_of rules key.now good))

-- a key word, and flags behind it
pub meta_get_line : (rules : Rules) (words rest : List (List ℕ)) (word : Bor (List ℕ)) (flags : List ℕ)
    → Steps words (Some word) rest → words_of flags ≡ rest → line_without_block rules kind.Get words
    ≡ whole_line (meta_command_of rules kind.Get word.now (words_of flags))
meta_get_line rules words rest word flags first rest_is = rw (first, rest_is) refl

-- a key word, a count, and flags behind it
pub meta_set_line : (rules : Rules) (words a rest : List (List ℕ)) (word count : Bor (List ℕ)) (n : ℕ) (flags : List ℕ)
    → Steps words (Some word) a → Steps a (Some count) rest → words_of flags ≡ rest → block_count rules count.now
    ≡ Some n →
    line_with_block rules words ≡ block_line rules (Some n) (meta_command_of rules kind.Set word.now (words_of flags))
meta_set_line rules words a rest word count n flags first second rest_is count_is =
    let all : words ≡ word.now ∷ count.now ∷ rest = first ∙ ap (λ l. word.now ∷ l) second in
    rw (all, count_is, rest_is) refl
