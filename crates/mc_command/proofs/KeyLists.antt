-- The keys in words.
use Rattle.std.proofs.Common.{◌≡◌, ◌≢◌, ℕ, Bool, true, false, cond, ◌&&◌, List, [], ◌∷◌, Option, Some, None, refl}
use Rattle.std.proofs.Common.{Result, Ok, Err}
use Rattle.std.specs.Option.{is_none}
use Rattle.std.specs.List.{list_all}
use Rattle.mc_wire.specs.Key.{key_fault}
use Rattle.mc_wire.specs.declared.error.WireError.{WireError}
use Rattle.mc_command.specs.declared.error.CommandError.{CommandError}
use Rattle.mc_command.specs.declared.error.CommandError.TheVariants.{BadKey, Memory}
use Rattle.mc_command.specs.Field.{AreKeys, is_key, key_of}
use Rattle.mc_command.specs.Classic.{keys_of}

is_refused : (test : Bool) (word : List ℕ) (refusal : CommandError)
    → cond {A = Result (List ℕ) CommandError} test (Ok word) (Err BadKey) ≡ Err refusal → (test ≡ false)
    × (refusal ≡ BadKey)
is_refused true word refusal h = absurd cc
is_refused false word refusal h = (refl, cc)

is_accepted : (test : Bool) (word key : List ℕ) → cond {A = Result (List ℕ) CommandError} test (Ok word) (Err BadKey)
    ≡ Ok key → (test ≡ true) × (key ≡ word)
is_accepted true word key h = (refl, cc)
is_accepted false word key h = absurd cc

-- the first word is no key
pub no_first : (first : List ℕ) (others : List (List ℕ)) (refusal : CommandError)
    → (refusal ≢ Memory → key_of first ≡ Err refusal) → refusal ≢ Memory → keys_of (first ∷ others) ≡ Err refusal
unfolding keys_of
no_first first others refusal h other =
    let fault = is_refused (is_key first) first refusal (h other) in
    let bad : list_all is_key (first ∷ others) ≡ false = rw fault.0 refl in
    rw (bad, fault.1)

-- the first word is a key, and the others are or not
pub of_others : (first key : List ℕ) (others : List (List ℕ)) (good : Bool) → key_of first ≡ Ok key
    → list_all is_key others ≡ good → keys_of (first ∷ others) ≡ cond good (Ok (key ∷ others)) (Err BadKey)
unfolding keys_of
of_others first key others good h judged =
    let found = is_accepted (is_key first) first key h in
    let all : list_all is_key (first ∷ others) ≡ good = rw (found.0, judged) refl in
    rw (all, found.1)

key_first : (fault : Option WireError) (rest : Bool) → (is_none fault && rest) ≡ true → (fault ≡ None) × (rest ≡ true)
key_first None rest h = (refl, h)
key_first (Some fault) rest h = absurd cc

-- Words that all pass the test for keys have none of the faults of keys.
pub each_key : (words : List (List ℕ)) → list_all is_key words ≡ true → AreKeys words
unfolding is_key
each_key [] h = tt
each_key (word ∷ words) h =
    let first = key_first (key_fault word) (list_all is_key words) h in
    (first.0, each_key words first.1)
