-- Laws of the table of meta lines: which of them may be refused for want of memory, and that the table itself
-- refuses none.
use Rattle.std.proofs.Common.{◌≡◌, ◌≢◌, ℕ, ◌&&◌, ◌==◌, not, Bool, true, false, List, [], ◌∷◌, ◌++◌, Option, Some, None}
use Rattle.std.proofs.Common.{is_some, refl, sym, ◌∙◌, Result, Ok, Err, cond, nat_lt, length}
use Rattle.std.specs.Prelude.{IsTrue}
use Rattle.std.specs.Option.{option_or}
use Rattle.std.specs.Result.{IsErrAnd}
use Rattle.mc_wire.specs.Base64Key.{base64_key}
use Rattle.mc_wire.specs.declared.TheConstants.{OPAQUE_LIMIT}
use Rattle.mc_command.specs.declared.command.Command.{Command}
use Rattle.mc_command.specs.declared.meta.MetaKind.{MetaKind}
use Rattle.mc_command.specs.declared.meta.MetaKind.TheVariants.{Get, Set, Delete, Arithmetic}
use Rattle.mc_command.specs.declared.error.CommandError.{CommandError}
use Rattle.mc_command.specs.declared.error.CommandError.TheVariants.{BadKey, Memory}
use Rattle.mc_command.specs.Blocks.{MayBeGivenUp}
use Rattle.mc_command.proofs.Lines.{Yields, may_then, yields_key, yields_or}
use Rattle.mc_command.specs.Command.{refusal_takes_memory}
use Rattle.mc_command.specs.Field.{Reads, then_of}
use Rattle.mc_command.specs.Meta.{letters_by, is_among, has_flag, is_set, is_token, flag_refusal, flags_refusal, unless}
use Rattle.mc_command.specs.Meta.{decoded_key, meta_key_of, compare_refusal, keyed_command, meta_command_of}
use Rattle.mc_command.specs.Meta.{meta_set_of}
use Rattle.mc_command.specs.internal.FlagsAsked.{asked_of, command_by}
use Rattle.mc_command.specs.declared.meta_flags.FlagsRead.{FlagsRead}
use Rattle.mc_command.specs.Rules.{is_drop_in}
use Rattle.mc_command.specs.declared.rules.Rules.{Rules}

-- What refuses, if anything does, comes of a line that may have taken memory.
abbrev IsOfLine : Option CommandError → Type 0
IsOfLine None = Unit {0}
IsOfLine (Some refusal) = IsTrue (refusal_takes_memory refusal)

of_cond : (b : Bool) (first second : Option CommandError) → IsOfLine first → IsOfLine second
    → IsOfLine (cond b first second)
of_cond true first second f s = f
of_cond false first second f s = s

of_or : (first second : Option CommandError) → IsOfLine first → IsOfLine second → IsOfLine (option_or first second)
of_or None second f s = s
of_or (Some refusal) second f s = f

flag_refusal_of_line : (rules : Rules) (name : MetaKind) (before : List (List ℕ)) (word : List ℕ)
    → IsOfLine (flag_refusal rules name before word)
flag_refusal_of_line rules name before [] = refl
flag_refusal_of_line rules name before (letter ∷ token) =
    of_cond (not (is_among (letters_by rules.profile name) letter)) _ _ refl
    (of_cond (has_flag letter before) _ _ refl
    (of_cond (letter == 79 && nat_lt OPAQUE_LIMIT (length token)) _ _ refl
    (of_cond (is_token name letter token) _ _ tt refl)))

flags_refusal_of_line : (rules : Rules) (name : MetaKind) (before words : List (List ℕ))
    → IsOfLine (flags_refusal rules name before words)
flags_refusal_of_line rules name before [] = tt
flags_refusal_of_line rules name before (word ∷ words) =
    of_or (flag_refusal rules name before word) (flags_refusal rules name (before ++ word ∷ []) words)
    (flag_refusal_of_line rules name before word) (flags_refusal_of_line rules name (before ++ word ∷ []) words)

given_up_unless : (refusal : Option CommandError) (asked : Result Command CommandError) → IsOfLine refusal
    → MayBeGivenUp asked → MayBeGivenUp (unless refusal asked)
given_up_unless None asked of_line may = may
given_up_unless (Some refusal) asked of_line may = of_line

given_up_command : (rules : Rules) (name : MetaKind) (key : List ℕ) (words : List (List ℕ))
    → MayBeGivenUp (keyed_command rules name key words)
given_up_command rules Get key words = refl
given_up_command rules Set key words =
    let set = meta_set_of rules key words in
    given_up_unless (compare_refusal rules set) _
    (of_cond (not (is_drop_in rules) && (is_some set.asked.compare && not (is_set set.asked.mode))) _ _ refl tt) refl
given_up_command rules Delete key words = refl
given_up_command rules Arithmetic key words = refl

yields_meta_key : (base64 : Bool) (word : List ℕ) → Yields (meta_key_of base64 word)
unfolding decoded_key
yields_meta_key true word = yields_or (base64_key word) BadKey refl
yields_meta_key false word = yields_key word

-- A meta line may be given up where memory runs out.
pub meta_given_up : (rules : Rules) (name : MetaKind) (word : List ℕ) (words : List (List ℕ))
    → MayBeGivenUp (meta_command_of rules name word words)
meta_given_up rules name word words =
    given_up_unless (flags_refusal rules name [] words) _ (flags_refusal_of_line rules name [] words)
    (may_then _ _ (yields_meta_key (has_flag 98 words) word) (λ key. given_up_command rules name key words))

-- What all that a line's flags ask makes of a key is what the flags themselves make of it.
pub asked_command : (rules : Rules) (name : MetaKind) (key : List ℕ) (words : List (List ℕ))
    → command_by rules name key (asked_of rules name words) ≡ keyed_command rules name key words
asked_command rules Get key words = refl
asked_command rules Set key words = refl
asked_command rules Delete key words = refl
asked_command rules Arithmetic key words = refl

asked_then : (rules : Rules) (name : MetaKind) (word : List ℕ) (words : List (List ℕ)) (asked : FlagsRead)
    (key : List ℕ) (refusal : Option CommandError) → Ok asked ≡ unless refusal (Ok (asked_of rules name words))
    → meta_key_of asked.flags.base64 word ≡ Ok key →
    command_by rules name key asked
    ≡ unless refusal (then_of (meta_key_of (has_flag 98 words) word) (λ bytes. keyed_command rules name bytes words))
asked_then rules name word words asked key (Some refusal) said spelled = absurd cc
asked_then rules name word words asked key None said spelled =
    let same : asked ≡ asked_of rules name words = cc in
    rw (same, rw same at spelled) (asked_command rules name key words)

reads_same : (asked read : Result Command CommandError) → read ≡ asked → Reads asked read
reads_same asked (Ok command) same = sym same
reads_same asked (Err refusal) same = λ other. sym same

-- flags and key as they were read make the command
pub reads_command : (rules : Rules) (name : MetaKind) (word : List ℕ) (words : List (List ℕ)) (asked : FlagsRead)
    (key : List ℕ) (read : Result Command CommandError) → Ok asked
    ≡ unless (flags_refusal rules name [] words) (Ok (asked_of rules name words)) →
    meta_key_of asked.flags.base64 word ≡ Ok key → read ≡ command_by rules name key asked
    → Reads (meta_command_of rules name word words) read
reads_command rules name word words asked key read said spelled made =
    reads_same (meta_command_of rules name word words) read
    (made ∙ asked_then rules name word words asked key (flags_refusal rules name [] words) said spelled)

-- A refusal that is passed up as it is, and refuses the line unless memory ran out, is what reading the line
-- gives.
pub reads_refused : {A : Type 0} (asked : Result Command CommandError)
    (shown : Result A CommandError → Result Command CommandError) (passed : Result A CommandError)
    (refusal : CommandError) →
    ((e : CommandError) → shown (Err e) ≡ Err e) → IsErrAnd passed (λ e. e ≡ refusal)
    → (refusal ≢ Memory → asked ≡ Err refusal) → Reads asked (shown passed)
reads_refused asked shown (Ok value) refusal errs is said = absurd is
reads_refused asked shown (Err e) refusal errs is said = rw (is, errs refusal) said

-- What refuses one thing refuses another too.
refuses_both : (found : Option CommandError) (asked : FlagsRead) (refusal : CommandError)
    (rest : Result Command CommandError) → Err refusal ≡ unless found (Ok asked) → unless found rest ≡ Err refusal
refuses_both (Some other) asked refusal rest said = cc
refuses_both None asked refusal rest said = absurd cc

-- Flags that are refused refuse the line.
pub flags_refused : (rules : Rules) (name : MetaKind) (word : List ℕ) (words : List (List ℕ)) (refusal : CommandError) →
    Err refusal ≡ unless (flags_refusal rules name [] words) (Ok (asked_of rules name words))
    → meta_command_of rules name word words ≡ Err refusal
flags_refused rules name word words refusal said =
    refuses_both (flags_refusal rules name [] words) (asked_of rules name words) refusal _ said

-- What is asked where nothing refuses it has the flag `b` of the words, so a key that can't be read by it
-- refuses the line.
key_then : (rules : Rules) (name : MetaKind) (word : List ℕ) (words : List (List ℕ)) (asked : FlagsRead)
    (refusal : CommandError) (found : Option CommandError) →
    Ok asked ≡ unless found (Ok (asked_of rules name words)) → meta_key_of asked.flags.base64 word ≡ Err refusal →
    unless found (then_of (meta_key_of (has_flag 98 words) word) (λ key. keyed_command rules name key words))
    ≡ Err refusal
key_then rules name word words asked refusal (Some other) said spelled = absurd cc
key_then rules name word words asked refusal None said spelled =
    let same : asked ≡ asked_of rules name words = cc in
    rw (rw same at spelled) refl

-- A key that is refused refuses the line, where its flags are not.
pub key_refused : (rules : Rules) (name : MetaKind) (word : List ℕ) (words : List (List ℕ)) (asked : FlagsRead)
    (refusal : CommandError) →
    Ok asked ≡ unless (flags_refusal rules name [] words) (Ok (asked_of rules name words))
    → meta_key_of asked.flags.base64 word ≡ Err refusal → meta_command_of rules name word words ≡ Err refusal
key_refused rules name word words asked refusal said spelled =
    key_then rules name word words asked refusal (flags_refusal rules name [] words) said spelled
