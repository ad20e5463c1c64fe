-- The words of a storage line, one after another.
use Rattle.std.proofs.Common.{◌≡◌, ℕ, suc, List, [], ◌∷◌, Option, Some, None, refl, ap, ◌∙◌, Result, Bor}
use Rattle.std.specs.Prelude.{MatchOption}
use Rattle.std.specs.List.{slice_get}
use Rattle.std.specs.Option.{option_copied}
use Rattle.mc_command.specs.declared.command.Command.{Command}
use Rattle.mc_command.specs.declared.command.StoreMode.{StoreMode}
use Rattle.mc_command.specs.declared.command.StoreMode.TheVariants.{Set}
use Rattle.mc_command.specs.declared.error.CommandError.{CommandError}
use Rattle.mc_command.specs.Field.{Reads}
use Rattle.mc_command.specs.Line.{Says}
use Rattle.mc_command.specs.Blocks.{block_count, block_line}
use Rattle.mc_command.specs.Classic.{storage_of, storage_words, storage_line, cas_words, cas_line}
use Rattle.mc_command.proofs.GivingUp.{says_block}
use Rattle.mc_command.proofs.Lines.{storage_may, cas_may}
use Rattle.mc_command.specs.declared.rules.Rules.{Rules}

-- one step of a walk over the words
abbrev pub Steps : List (List ℕ) → Option (Bor (List ℕ)) → List (List ℕ) → Type 0
Steps words found rest = MatchOption found ((words ≡ []) × (rest ≡ [])) (λ word. words ≡ word.now ∷ rest)

-- the words that are left where at most one is
last_of : Option (List ℕ) → List (List ℕ)
last_of None = []
last_of (Some word) = word ∷ []

last_is : (words rest end : List (List ℕ)) (found : Option (Bor (List ℕ))) → Steps words found rest
    → Steps rest None end → words ≡ last_of (option_copied found)
unfolding last_of
last_is words rest end None step more = step.0
last_is words rest end (Some word) step more = step ∙ ap (λ l. word.now ∷ l) more.0

storage_words_last : (rules : Rules) (mode : StoreMode) (key flags exptime count : List ℕ) (noreply : Option (List ℕ))
    → storage_words rules mode (key ∷ flags ∷ exptime ∷ count ∷ last_of noreply)
    ≡ storage_of rules mode key flags exptime None noreply
unfolding last_of
storage_words_last rules mode key flags exptime count None = refl
storage_words_last rules mode key flags exptime count (Some word) = refl

-- four words, and perhaps one more
pub storage_says : (rules : Rules) (mode : StoreMode) (words a b c d e end : List (List ℕ))
    (key flags exptime count : Bor (List ℕ)) (noreply : Option (Bor (List ℕ))) (read : Result Command CommandError) →
    Steps words (Some key) a → Steps a (Some flags) b → Steps b (Some exptime) c → Steps c (Some count) d
    → Steps d noreply e → Steps e None end →
    Reads (storage_of rules mode key.now flags.now exptime.now None (option_copied noreply)) read →
    Says (storage_line rules mode words) (block_line rules (block_count rules count.now) read)
storage_says rules mode words a b c d e end key flags exptime count noreply read first second third fourth fifth none
    reads =
    let all : words ≡ key.now ∷ flags.now ∷ exptime.now ∷ count.now ∷ last_of (option_copied noreply) = first
    ∙ ap (λ l. key.now ∷ l) (second
    ∙ ap (λ l. flags.now ∷ l)
    (third ∙ ap (λ l. exptime.now ∷ l) (fourth ∙ ap (λ l. count.now ∷ l) (last_is d e end noreply fifth none)))) in
    let asked = storage_words_last rules mode key.now flags.now exptime.now count.now (option_copied noreply) in
    let may = storage_may rules mode (key.now ∷ flags.now ∷ exptime.now ∷ count.now ∷ last_of (option_copied noreply))
    in
    rw all (says_block rules (block_count rules count.now) _ read (rw asked reads) may)

cas_words_last : (rules : Rules) (key flags exptime count unique : List ℕ) (noreply : Option (List ℕ))
    → cas_words rules (key ∷ flags ∷ exptime ∷ count ∷ unique ∷ last_of noreply)
    ≡ storage_of rules Set key flags exptime (Some unique) noreply
unfolding last_of
cas_words_last rules key flags exptime count unique None = refl
cas_words_last rules key flags exptime count unique (Some word) = refl

-- five words, and perhaps one more
pub cas_says : (rules : Rules) (words a b c d e f end : List (List ℕ)) (key flags exptime count unique : Bor (List ℕ))
    (noreply : Option (Bor (List ℕ))) (read : Result Command CommandError) →
    Steps words (Some key) a → Steps a (Some flags) b → Steps b (Some exptime) c → Steps c (Some count) d
    → Steps d (Some unique) e → Steps e noreply f → Steps f None end →
    Reads (storage_of rules Set key.now flags.now exptime.now (Some unique.now) (option_copied noreply)) read →
    Says (cas_line rules words) (block_line rules (block_count rules count.now) read)
cas_says rules words a b c d e f end key flags exptime count unique noreply read first second third fourth fifth sixth
    none reads =
    let all : words ≡ key.now ∷ flags.now ∷ exptime.now ∷ count.now ∷ unique.now ∷ last_of (option_copied noreply) =
    first ∙ ap (λ l. key.now ∷ l)
    (second ∙ ap (λ l. flags.now ∷ l)
    (third ∙ ap (λ l. exptime.now ∷ l)
    (fourth ∙ ap (λ l. count.now ∷ l) (fifth ∙ ap (λ l. unique.now ∷ l) (last_is e f end noreply sixth none))))) in
    let asked = cas_words_last rules key.now flags.now exptime.now count.now unique.now (option_copied noreply) in
    let may = cas_may rules (key.now ∷ flags.now ∷ exptime.now ∷ count.now ∷ unique.now ∷ last_of
    (option_copied noreply)) in
    rw all (says_block rules (block_count rules count.now) _ read (rw asked reads) may)

-- words by their places

first_word : (words rest : List (List ℕ)) (found : Option (Bor (List ℕ))) → Steps words found rest → slice_get words 0
    ≡ option_copied found
first_word words rest None step = rw step.0
first_word words rest (Some word) step = rw step

later_word : (words rest : List (List ℕ)) (found : Option (Bor (List ℕ))) (place : ℕ) → Steps words found rest
    → slice_get words (suc place) ≡ slice_get rest place
later_word words rest None place step = rw (step.0, step.1)
later_word words rest (Some word) place step = rw step

-- What the fourth step of a walk over words finds is their fourth, or nothing where there are fewer.
pub fourth_word : (words a b c d : List (List ℕ)) (key flags exptime count : Option (Bor (List ℕ))) → Steps words key a
    → Steps a flags b → Steps b exptime c → Steps c count d → slice_get words 3 ≡ option_copied count
fourth_word words a b c d key flags exptime count first second third fourth =
    later_word words a key 2 first
    ∙ (later_word a b flags 1 second ∙ (later_word b c exptime 0 third ∙ first_word c d count fourth))

-- What the fifth step of a walk over words finds is their fifth, or nothing where there are fewer.
pub fifth_word : (words a b c d e : List (List ℕ)) (key flags exptime count unique : Option (Bor (List ℕ)))
    → Steps words key a → Steps a flags b → Steps b exptime c → Steps c count d → Steps d unique e → slice_get words 4
    ≡ option_copied unique
fifth_word words a b c d e key flags exptime count unique first second third fourth fifth =
    later_word words a key 3 first ∙ fourth_word a b c d e flags exptime count unique second third fourth fifth
