-- Reading flags one after another gives what the look-ups in all of them give.
use Rattle.std.proofs.Common.{◌≡◌, ℕ, ◌<◌, ◌==◌, ◌^◌, true, false, ◌&&◌, cond, List, [], ◌∷◌, ◌++◌, length, Option}
use Rattle.std.proofs.Common.{Some, None, is_some, refl, sym, ap, ◌∙◌, arith, inl, inr, Result, Ok, Err, nat_lt, get_or}
use Rattle.std.proofs.Common.{set, get_or-set_other, get_or-set_same, append_assoc, append-nil}
use Rattle.std.proofs.lemmas.List.{get_or-replicate, length-replicate}
use Rattle.std.proofs.Math.ListN.{length-set}
use Rattle.std.proofs.lemmas.Bool.{cases_Bool}
use Rattle.std.proofs.lemmas.Bool.Decides.{eqb_tells}
use Rattle.std.specs.Option.{ok_or, option_map}
use Rattle.mc_wire.specs.Number.{number_of, integer_of}
use Rattle.mc_wire.specs.declared.TheConstants.{OPAQUE_LIMIT}
use Rattle.mc_command.specs.declared.meta_flags.FlagsRead.{FlagsRead}
use Rattle.mc_command.specs.declared.meta_flags.Flag.{Flag}
use Rattle.mc_command.specs.declared.meta_flags.Flag.TheVariants as flag
use Rattle.mc_command.specs.declared.meta_flags.FlagReader.{FlagReader}
use Rattle.mc_command.specs.declared.meta.MetaKind.{MetaKind}
use Rattle.mc_command.specs.declared.meta.MetaKind.TheVariants.{Get, Set, Delete, Arithmetic}
use Rattle.mc_command.specs.declared.error.CommandError.{CommandError}
use Rattle.mc_command.specs.declared.error.CommandError.TheVariants.{BadFormat, InvalidFlag, DuplicateFlag}
use Rattle.mc_command.specs.declared.error.CommandError.TheVariants.{OpaqueTooLong}
use Rattle.mc_command.specs.declared.rules.Profile.{Profile}
use Rattle.mc_command.specs.declared.rules.Profile.TheVariants.{Own, DropIn}
use Rattle.mc_command.specs.declared.rules.Rules.{Rules}
use Rattle.mc_command.specs.Field.{then_of}
use Rattle.mc_command.specs.Meta.{letters_by, is_among, has_flag, is_token, mode_of, direction_of, return_flag}
use Rattle.mc_command.specs.Meta.{flags_refusal, flag_refusal, unless}
use Rattle.mc_command.specs.internal.FlagsAsked.{asked_of}
use Rattle.mc_command.specs.internal.FlagReading.{nothing_asked, flag_of, with_flag, with_shown, with_word, unseen}
use Rattle.mc_command.proofs.MetaCounts.{eq_comm, small_among}
use Rattle.mc_command.proofs.MetaLookups.{asked_next, asked_of-append, has_flag-append, with_shown_is}

-- what is read from here on
abbrev pub read_from : Rules → MetaKind → FlagReader → List (List ℕ) → Result FlagsRead CommandError
read_from rules name reader [] = Ok reader.asked
read_from rules name reader (word ∷ words) =
    then_of (with_word rules name reader word) (λ more. read_from rules name more words)

-- what refuses a flag for its token
token_refusal : MetaKind → ℕ → List ℕ → Option CommandError
token_refusal name letter token =
    cond (letter == 79 && nat_lt OPAQUE_LIMIT (length token)) (Some OpaqueTooLong)
    (cond (is_token name letter token) None (Some BadFormat))

-- the meaning of a flag that occurs for the first time
data Tells (rules : Rules) (name : MetaKind) (letter : ℕ) (token : List ℕ) (before : List (List ℕ)) : Type 0 where
  refused : (refusal : CommandError) → token_refusal name letter token ≡ Some refusal → flag_of name letter token
      ≡ Err refusal → Tells rules name letter token before
  said : (flag : Flag) → token_refusal name letter token ≡ None → flag_of name letter token ≡ Ok flag →
      with_shown (with_flag (asked_of rules name before) flag) (return_flag letter)
      ≡ asked_of rules name (before ++ (letter ∷ token) ∷ []) → Tells rules name letter token before

-- A flag means what the lookups find.
abbrev IsSaid : Rules → MetaKind → ℕ → Type 0
IsSaid rules name letter =
    (token : List ℕ) (before : List (List ℕ)) → has_flag letter before ≡ false → Tells rules name letter token before

-- a flag without a token
said_plain : (rules : Rules) (name : MetaKind) (letter : ℕ) (flag : Flag)
    → ((token : List ℕ) → token_refusal name letter token ≡ None)
    → ((token : List ℕ) → flag_of name letter token ≡ Ok flag) →
    ((asked : FlagsRead) (token : List ℕ) → with_shown (with_flag asked flag) (return_flag letter)
    ≡ asked_next name asked letter token (return_flag letter)) → IsSaid rules name letter
said_plain rules name letter flag refusal is agrees token before fresh =
    said flag (refusal token) (is token)
    (agrees (asked_of rules name before) token ∙ sym (asked_of-append rules name before letter token fresh))

said_opaque : (rules : Rules) (name : MetaKind) → IsSaid rules name 79
unfolding token_refusal
said_opaque rules name token before fresh = elim (cases_Bool (nat_lt OPAQUE_LIMIT (length token))) [
  | inl t ↦ refused OpaqueTooLong (rw t) (rw t)
  | inr t ↦ said (flag.Opaque token) (rw t) (rw t) (sym (asked_of-append rules name before 79 token fresh))
]

-- a flag whose token is read, or refused
said_read : {A : Type 0} (rules : Rules) (name : MetaKind) (letter : ℕ) (read : List ℕ → Option A) (make : A → Flag)
    → ((token : List ℕ) → token_refusal name letter token ≡ cond (is_some (read token)) None (Some BadFormat)) →
    ((token : List ℕ) → flag_of name letter token ≡ ok_or (option_map make (read token)) BadFormat) →
    ((before : List (List ℕ)) (token : List ℕ) (value : A) → read token ≡ Some value
    → with_shown (with_flag (asked_of rules name before) (make value)) (return_flag letter)
    ≡ asked_next name (asked_of rules name before) letter token (return_flag letter)) → IsSaid rules name letter
said_read {A = A} rules name letter read make refusal is agrees token before fresh = by_value (read token) refl where
  by_value : (found : Option A) → read token ≡ found → Tells rules name letter token before
  by_value None none = refused BadFormat (refusal token ∙ rw none) (is token ∙ rw none)
  by_value (Some value) some =
      said (make value) (refusal token ∙ rw some) (is token ∙ rw some)
      (agrees before token value some ∙ sym (asked_of-append rules name before letter token fresh))

said_mode : (rules : Rules) (name : MetaKind) → IsSaid rules name 77
unfolding token_refusal
said_mode rules Get token before fresh = refused BadFormat refl refl
said_mode rules Delete token before fresh = refused BadFormat refl refl
said_mode rules Set token before fresh =
    said_read rules Set 77 mode_of flag.Mode (λ _. refl) (λ _. refl) (λ _ _ _ is. rw is refl) token before fresh
said_mode rules Arithmetic token before fresh =
    said_read rules Arithmetic 77 direction_of flag.Direction (λ _. refl) (λ _. refl) (λ _ _ _ is. rw is refl) token
    before fresh

said_bare : (rules : Rules) (name : MetaKind) (letter : ℕ) → (letter == 98) ≡ false → (letter == 113) ≡ false
    → (letter == 118) ≡ false → (letter == 73) ≡ false → (letter == 117) ≡ false → (letter == 79) ≡ false
    → (letter == 77) ≡ false → (letter == 84) ≡ false → (letter == 78) ≡ false → (letter == 82) ≡ false → (letter == 67)
    ≡ false → (letter == 69) ≡ false → (letter == 68) ≡ false → (letter == 74) ≡ false → (letter == 70) ≡ false
    → IsSaid rules name letter
unfolding token_refusal
said_bare rules name letter t98 t113 t118 t73 t117 t79 t77 t84 t78 t82 t67 t69 t68 t74 t70 token before fresh =
    said flag.Bare
    (rw (
      eq_comm 84 letter,
      eq_comm 78 letter,
      eq_comm 82 letter,
      eq_comm 67 letter,
      eq_comm 69 letter,
      eq_comm 68 letter,
      eq_comm 74 letter,
      t79,
      t84,
      t78,
      t82,
      t67,
      t69,
      t68,
      t74,
      t70,
      t77,
    ) refl)
    (rw (t98, t113, t118, t73, t117, t79, t77, t84, t78, t82, t67, t69, t68, t74, t70) refl)
    (with_shown_is (asked_of rules name before) (return_flag letter)
    ∙ sym (asked_of-append rules name before letter token fresh
    ∙ rw (t98, t113, t118, t73, t117, t79, t77, t84, t78, t82, t67, t69, t68, t74, t70) refl))

-- what holds of one letter, and of all others, holds of every letter
by_letter : (rules : Rules) (name : MetaKind) (one letter : ℕ) → IsSaid rules name one
    → ((letter == one) ≡ false → IsSaid rules name letter) → IsSaid rules name letter
by_letter rules name one letter here others = elim (eqb_tells letter one) [ inl w ↦ rw w.1 here | inr w ↦ others w.0 ]

every_letter : (rules : Rules) (name : MetaKind) (letter : ℕ) → IsSaid rules name letter
unfolding token_refusal
every_letter rules name letter =
    by_letter rules name 98 letter (said_plain rules name 98 flag.Base64 (λ _. refl) (λ _. refl) (λ _ _. refl)) (λ t98.
    by_letter rules name 113 letter (said_plain rules name 113 flag.Quiet (λ _. refl) (λ _. refl) (λ _ _. refl))
    (λ t113.
    by_letter rules name 118 letter (said_plain rules name 118 flag.Value (λ _. refl) (λ _. refl) (λ _ _. refl))
    (λ t118.
    by_letter rules name 73 letter (said_plain rules name 73 flag.Invalidate (λ _. refl) (λ _. refl) (λ _ _. refl))
    (λ t73.
    by_letter rules name 117 letter (said_plain rules name 117 flag.Unnoted (λ _. refl) (λ _. refl) (λ _ _. refl))
    (λ t117.
    by_letter rules name 79 letter (said_opaque rules name) (λ t79.
    by_letter rules name 77 letter (said_mode rules name) (λ t77.
    by_letter rules name 84 letter
    (said_read rules name 84 integer_of flag.Exptime (λ _. refl) (λ _. refl) (λ _ _ _ is. rw is refl)) (λ t84.
    by_letter rules name 78 letter
    (said_read rules name 78 integer_of flag.Vivify (λ _. refl) (λ _. refl) (λ _ _ _ is. rw is refl)) (λ t78.
    by_letter rules name 82 letter
    (said_read rules name 82 integer_of flag.Recache (λ _. refl) (λ _. refl) (λ _ _ _ is. rw is refl)) (λ t82.
    by_letter rules name 67 letter
    (said_read rules name 67 (number_of (2 ^ 64)) flag.Compare (λ _. refl) (λ _. refl) (λ _ _ _ is. rw is refl)) (λ t67.
    by_letter rules name 69 letter
    (said_read rules name 69 (number_of (2 ^ 64)) flag.Unique (λ _. refl) (λ _. refl) (λ _ _ _ is. rw is refl)) (λ t69.
    by_letter rules name 68 letter
    (said_read rules name 68 (number_of (2 ^ 64)) flag.Amount (λ _. refl) (λ _. refl) (λ _ _ _ is. rw is refl)) (λ t68.
    by_letter rules name 74 letter
    (said_read rules name 74 (number_of (2 ^ 64)) flag.Initial (λ _. refl) (λ _. refl) (λ _ _ _ is. rw is refl)) (λ t74.
    by_letter rules name 70 letter
    (said_read rules name 70 (number_of (2 ^ 32)) flag.ClientFlags (λ _. refl) (λ _. refl) (λ _ _ _ is. rw is refl))
    (λ t70.
    said_bare rules name letter t98 t113 t118 t73 t117 t79 t77 t84 t78 t82 t67 t69 t68 t74 t70)))))))))))))))

small_by : (profile : Profile) (name : MetaKind) (letter : ℕ) → is_among (letters_by profile name) letter ≡ true
    → letter < 256
small_by Own Get letter among = small_among letter (letters_by Own Get) refl among
small_by Own Set letter among = small_among letter (letters_by Own Set) refl among
small_by Own Delete letter among = small_among letter (letters_by Own Delete) refl among
small_by Own Arithmetic letter among = small_among letter (letters_by Own Arithmetic) refl among
small_by DropIn Get letter among = small_among letter (letters_by DropIn Get) refl among
small_by DropIn Set letter among = small_among letter (letters_by DropIn Set) refl among
small_by DropIn Delete letter among = small_among letter (letters_by DropIn Delete) refl among
small_by DropIn Arithmetic letter among = small_among letter (letters_by DropIn Arithmetic) refl among

small_letter : (rules : Rules) (name : MetaKind) (letter : ℕ) → is_among (letters_by rules.profile name) letter ≡ true
    → letter < 256
small_letter rules name letter among = small_by rules.profile name letter among

-- The reader has read these flags.
record HasRead (rules : Rules) (name : MetaKind) (reader : FlagReader) (before : List (List ℕ)) : Type 0 where
  wide : length reader.seen ≡ 256
  seen : (letter : ℕ) → letter < 256 → get_or reader.seen letter false ≡ has_flag letter before
  asked : reader.asked ≡ asked_of rules name before

-- what one flag more gives
data Step (rules : Rules) (name : MetaKind) (reader : FlagReader) (before : List (List ℕ)) (word : List ℕ) : Type 0
  where
    stops : (refusal : CommandError) → flag_refusal rules name before word ≡ Some refusal
        → with_word rules name reader word ≡ Err refusal → Step rules name reader before word
    goes : (more : FlagReader) → flag_refusal rules name before word ≡ None → with_word rules name reader word ≡ Ok more
        → HasRead rules name more (before ++ word ∷ []) → Step rules name reader before word

has_read_more : (rules : Rules) (name : MetaKind) (reader : FlagReader) (before : List (List ℕ)) (letter : ℕ)
    (token : List ℕ) (flag : Flag) → HasRead rules name reader before → letter < 256 →
    with_shown (with_flag (asked_of rules name before) flag) (return_flag letter)
    ≡ asked_of rules name (before ++ (letter ∷ token) ∷ []) →
    HasRead rules name (record {
      seen = set reader.seen letter true;
      asked = with_shown (with_flag reader.asked flag) (return_flag letter);
    }) (before ++ (letter ∷ token) ∷ [])
has_read_more rules name reader before letter token flag read small agrees =
    let wide = read.wide in
    let within : letter < length reader.seen = omega arith in
    record {
      wide = length-set reader.seen letter true ∙ wide;
      seen = λ any below. rw (has_flag-append any before letter token) (elim (eqb_tells letter any) [
        | inl w ↦ rw (w.0, ← w.1) (get_or-set_same reader.seen letter true false within)
        | inr w ↦ rw (w.0, get_or-set_other reader.seen letter any true false (λ e. w.1 (sym e))) (read.seen any below)
      ]);
      asked = rw read.asked agrees;
    }

step : (rules : Rules) (name : MetaKind) (reader : FlagReader) (before : List (List ℕ)) (word : List ℕ)
    → HasRead rules name reader before → Step rules name reader before word
unfolding token_refusal
step rules name reader before [] read = stops InvalidFlag refl refl
step rules name reader before (letter ∷ token) read =
    elim (cases_Bool (is_among (letters_by rules.profile name) letter)) [
      | inr t ↦ stops InvalidFlag (rw t refl) (rw t refl)
      | inl t ↦ elim (cases_Bool (has_flag letter before)) [
        | inl stands ↦
            let seen : get_or reader.seen letter false ≡ true = read.seen letter (small_letter rules name letter t)
            ∙ stands in
            stops DuplicateFlag (rw (t, stands) refl) (rw (t, seen) refl)
        | inr fresh ↦
            let seen : get_or reader.seen letter false ≡ false = read.seen letter (small_letter rules name letter t)
            ∙ fresh in
            elim (every_letter rules name letter token before fresh) [
              | refused refusal token_is flag_is ↦ stops refusal (rw (t, fresh) token_is) (rw (t, seen, flag_is) refl)
              | said flag token_is flag_is agrees ↦
                  goes (record {
                    seen = set reader.seen letter true;
                    asked = with_shown (with_flag reader.asked flag) (return_flag letter);
                  })
                  (rw (t, fresh) token_is) (rw (t, seen, flag_is) refl)
                  (has_read_more rules name reader before letter token flag read (small_letter rules name letter t)
                  agrees)
            ]
      ]
    ]

read_on : (rules : Rules) (name : MetaKind) (reader : FlagReader) (before words : List (List ℕ))
    → HasRead rules name reader before →
    read_from rules name reader words
    ≡ unless (flags_refusal rules name before words) (Ok (asked_of rules name (before ++ words)))
read_on rules name reader before [] read = ap Ok (read.asked ∙ ap (asked_of rules name) (sym (append-nil before)))
read_on rules name reader before (word ∷ words) read =
    elim (step rules name reader before word read) [
      | stops refusal refusal_is word_is ↦ rw (refusal_is, word_is) refl
      | goes more refusal_is word_is has_read ↦
          rw (refusal_is, word_is)
          (read_on rules name more (before ++ word ∷ []) words has_read ∙
          ap (λ ws. unless (flags_refusal rules name (before ++ word ∷ []) words) (Ok (asked_of rules name ws)))
          (append_assoc before (word ∷ []) words))
    ]

nothing_is : (rules : Rules) (name : MetaKind) → nothing_asked rules.profile ≡ asked_of rules name []
nothing_is rules Get = refl
nothing_is rules Set = refl
nothing_is rules Delete = refl
nothing_is rules Arithmetic = refl

pub read_from_is : (rules : Rules) (name : MetaKind) (reader : FlagReader) (words : List (List ℕ)) → reader.seen
    ≡ unseen → reader.asked ≡ nothing_asked rules.profile → read_from rules name reader words
    ≡ unless (flags_refusal rules name [] words) (Ok (asked_of rules name words))
read_from_is rules name reader words seen asked = read_on rules name reader [] words (record {
  wide = rw seen (length-replicate 256 false);
  seen = λ letter below. rw seen (get_or-replicate 256 letter false false below);
  asked = asked ∙ nothing_is rules name;
})

-- no word is left
pub read_whole : (rules : Rules) (name : MetaKind) (reader first : FlagReader) (left words : List (List ℕ)) → first.seen
    ≡ unseen → first.asked ≡ nothing_asked rules.profile →
    read_from rules name reader left ≡ read_from rules name first words → left ≡ [] → Ok reader.asked
    ≡ unless (flags_refusal rules name [] words) (Ok (asked_of rules name words))
read_whole rules name reader first left words seen asked same_rest ended =
    let e : read_from rules name reader [] ≡ read_from rules name first words = rw ended at same_rest in
    e ∙ read_from_is rules name first words seen asked

-- the next word is refused
pub read_refused : (rules : Rules) (name : MetaKind) (reader first : FlagReader) (left words : List (List ℕ))
    (word : List ℕ) (later : List (List ℕ)) (refusal : CommandError) → first.seen ≡ unseen → first.asked
    ≡ nothing_asked rules.profile →
    read_from rules name reader left ≡ read_from rules name first words → left ≡ word ∷ later
    → with_word rules name reader word ≡ Err refusal → Err refusal
    ≡ unless (flags_refusal rules name [] words) (Ok (asked_of rules name words))
read_refused rules name reader first left words word later refusal seen asked same_rest next stops_there =
    let e : read_from rules name reader (word ∷ later) ≡ read_from rules name first words = rw next at same_rest in
    let f = rw stops_there at e in
    f ∙ read_from_is rules name first words seen asked
