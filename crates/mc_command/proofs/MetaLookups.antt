-- Look-ups in flags and one flag more behind them.
use Rattle.std.proofs.Common.{◌≡◌, ℕ, ◌==◌, ◌^◌, Bool, true, false, ◌||◌, cond, List, [], ◌∷◌, ◌++◌, Option, Some, None}
use Rattle.std.proofs.Common.{unwrap_or, refl, ap, ◌∙◌, append-nil, inl, inr}
use Rattle.std.specs.Prelude.{find, option_and_then}
use Rattle.std.specs.List.{filter_map, cons_option}
use Rattle.std.specs.Option.{option_or}
use Rattle.std.proofs.Math.Bool.{or-false, or_comm}
use Rattle.std.proofs.lemmas.Bool.{or_parts}
use Rattle.std.proofs.lemmas.Bool.Decides.{eqb_tells}
use Rattle.std.proofs.lemmas.List.Elements.{filter_map-append}
use Rattle.std.proofs.lemmas.List.Folds.{find-append, list_any-append}
use Rattle.mc_wire.specs.Number.{number_of, integer_of}
use Rattle.mc_command.specs.declared.meta.ReturnFlag.{ReturnFlag}
use Rattle.mc_command.specs.declared.meta_flags.FlagsRead.{FlagsRead}
use Rattle.mc_command.specs.declared.meta.MetaKind.{MetaKind}
use Rattle.mc_command.specs.declared.rules.Rules.{Rules}
use Rattle.mc_command.specs.Meta.{has_letter, has_flag, token_of, shown_flag, return_flag}
use Rattle.mc_command.specs.internal.FlagsAsked.{asked_of, mode_in, direction_in}
use Rattle.mc_command.specs.internal.FlagReading.{with_shown}

-- A flag is among some flags and one more exactly if it is that one or among the others.
pub has_flag-append : (letter : ℕ) (before : List (List ℕ)) (first : ℕ) (token : List ℕ)
    → has_flag letter (before ++ (first ∷ token) ∷ []) ≡ (first == letter) || has_flag letter before
has_flag-append letter before first token =
    list_any-append (has_letter letter) before ((first ∷ token) ∷ [])
    ∙ (ap (λ b. has_flag letter before || b) (or-false (first == letter))
    ∙ or_comm (has_flag letter before) (first == letter))

-- a missing flag is not found
found_none : (letter : ℕ) (words : List (List ℕ)) → has_flag letter words ≡ false → find (has_letter letter) words
    ≡ None
found_none letter [] absent = refl
found_none letter (word ∷ words) absent =
    let parts = or_parts (has_letter letter word) (has_flag letter words) absent in
    rw parts.0 (found_none letter words parts.1)

or_none : {A : Type 0} (found : Option A) → option_or found None ≡ found
or_none None = refl
or_none (Some value) = refl

token_of-append : (letter : ℕ) (before : List (List ℕ)) (first : ℕ) (token : List ℕ) → has_flag first before ≡ false →
    token_of letter (before ++ (first ∷ token) ∷ []) ≡ cond (first == letter) (Some token) (token_of letter before)
token_of-append letter before first token fresh =
    rw (find-append (has_letter letter) before ((first ∷ token) ∷ [])) (elim (eqb_tells first letter) [
      | inl w ↦
          let absent : has_flag letter before ≡ false = rw w.1 at fresh in
          rw (w.0, found_none letter before absent)
      | inr w ↦ rw (w.0, or_none (find (has_letter letter) before))
    ])

cond_of : {A B : Type 0} (read : A → B) (test : Bool) (one other : A) → read (cond test one other)
    ≡ cond test (read one) (read other)
cond_of read true one other = refl
cond_of read false one other = refl

-- what is read of a flag's token, with one flag more
read-append : {A : Type 0} (read : Option (List ℕ) → A) (letter : ℕ) (before : List (List ℕ)) (first : ℕ)
    (token : List ℕ) → has_flag first before ≡ false →
    read (token_of letter (before ++ (first ∷ token) ∷ []))
    ≡ cond (first == letter) (read (Some token)) (read (token_of letter before))
read-append read letter before first token fresh =
    ap read (token_of-append letter before first token fresh)
    ∙ cond_of read (first == letter) (Some token) (token_of letter before)

-- the flags given back, and one more where there is one
abbrev pub more_shown : List ReturnFlag → Option ReturnFlag → List ReturnFlag
more_shown flags None = flags
more_shown flags (Some flag) = flags ++ flag ∷ []

more_is : (flags : List ReturnFlag) (last : Option ReturnFlag) → flags ++ cons_option last [] ≡ more_shown flags last
more_is flags None = append-nil flags
more_is flags (Some last) = refl

-- what a flag more makes of what was asked
abbrev pub asked_next : MetaKind → FlagsRead → ℕ → List ℕ → Option ReturnFlag → FlagsRead
asked_next name asked first token shown = record {
  flags = record {
    base64 = (first == 98) || asked.flags.base64;
    quiet = (first == 113) || asked.flags.quiet;
    profile = asked.flags.profile;
    returned = more_shown asked.flags.returned shown;
    opaque = cond (first == 79) token asked.flags.opaque;
  };
  value = (first == 118) || asked.value;
  invalidate = (first == 73) || asked.invalidate;
  unnoted = (first == 117) || asked.unnoted;
  exptime = cond (first == 84) (integer_of token) asked.exptime;
  vivify = cond (first == 78) (integer_of token) asked.vivify;
  recache = cond (first == 82) (integer_of token) asked.recache;
  compare = cond (first == 67) (number_of (2 ^ 64) token) asked.compare;
  unique = cond (first == 69) (number_of (2 ^ 64) token) asked.unique;
  amount = cond (first == 68) (number_of (2 ^ 64) token) asked.amount;
  initial = cond (first == 74) (number_of (2 ^ 64) token) asked.initial;
  client_flags = cond (first == 70) (number_of (2 ^ 32) token) asked.client_flags;
  mode = cond (first == 77) (mode_in name (Some token)) asked.mode;
  direction = cond (first == 77) (direction_in name (Some token)) asked.direction;
}

-- With one more flag, of a new letter, a meta line has its earlier flags and that one.
pub asked_of-append : (rules : Rules) (name : MetaKind) (before : List (List ℕ)) (first : ℕ) (token : List ℕ)
    → has_flag first before ≡ false →
    asked_of rules name (before ++ (first ∷ token) ∷ [])
    ≡ asked_next name (asked_of rules name before) first token (return_flag first)
asked_of-append rules name before first token fresh =
    let flag = λ (letter : ℕ). has_flag-append letter before first token in
    let returned = filter_map-append shown_flag before ((first ∷ token) ∷ [])
    ∙ more_is (filter_map shown_flag before) (return_flag first) in
    let opaque = read-append (λ o. unwrap_or o []) 79 before first token fresh in
    let signed = λ (letter : ℕ). read-append (option_and_then integer_of) letter before first token fresh in
    let unsigned = λ (bound letter : ℕ). read-append (option_and_then (number_of bound)) letter before first token fresh
    in
    let mode = read-append (mode_in name) 77 before first token fresh in
    let direction = read-append (direction_in name) 77 before first token fresh in
    rw (flag 98, flag 113, returned, opaque, flag 118, flag 73, flag 117, signed 84, signed 78, signed 82)
    (rw (
      unsigned (2 ^ 64) 67,
      unsigned (2 ^ 64) 69,
      unsigned (2 ^ 64) 68,
      unsigned (2 ^ 64) 74,
      unsigned (2 ^ 32) 70,
      mode,
      direction,
    ))

-- A flag more that is given back, where there is one, comes last of these, and all else that is asked stays.
pub with_shown_is : (asked : FlagsRead) (shown : Option ReturnFlag) → with_shown asked shown
    ≡ record asked { flags = record asked.flags { returned = more_shown asked.flags.returned shown } }
with_shown_is asked None = refl
with_shown_is asked (Some shown) = refl
