-- Parsing one flag after another: what each means, and the state so far.
use Rattle.std.specs.Prelude.{ℕ, ◌≡◌, ◌+◌, ◌==◌, ◌^◌, Bool, true, false, not, List, [], ◌∷◌, ◌++◌, length, Option, Some}
use Rattle.std.specs.Prelude.{None, nat_lt, codes, if◌then◌else◌, Result, Ok, Err, replicate, slice_index_or, slice_set}
use Rattle.std.specs.Option.{ok_or, option_map}
use Rattle.std.specs.Str.{byte}
use Rattle.mc_wire.specs.Number.{number_of, integer_of}
use Rattle.mc_wire.specs.declared.TheConstants.{OPAQUE_LIMIT}
use Rattle.mc_command.specs.declared.meta.ReturnFlag.{ReturnFlag}
use Rattle.mc_command.specs.declared.meta_flags.FlagsRead.{FlagsRead}
use Rattle.mc_command.specs.declared.meta_flags.Flag.{Flag}
use Rattle.mc_command.specs.declared.meta_flags.Flag.TheVariants as flag
use Rattle.mc_command.specs.declared.meta_flags.FlagReader.{FlagReader}
use Rattle.mc_command.specs.declared.meta.MetaKind.{MetaKind}
use Rattle.mc_command.specs.declared.meta.MetaKind.TheVariants.{Set, Arithmetic}
use Rattle.mc_command.specs.declared.error.CommandError.{CommandError}
use Rattle.mc_command.specs.declared.error.CommandError.TheVariants.{BadFormat, InvalidFlag, DuplicateFlag}
use Rattle.mc_command.specs.declared.error.CommandError.TheVariants.{OpaqueTooLong}
use Rattle.mc_command.specs.declared.rules.Profile.{Profile}
use Rattle.mc_command.specs.declared.rules.Rules.{Rules}
use Rattle.mc_command.specs.Field.{then_of}
use Rattle.mc_command.specs.Meta.{letters_by, is_among, mode_of, direction_of, return_flag}

-- the state without flags, for a reply under this profile's rules
abbrev pub nothing_asked : Profile → FlagsRead
nothing_asked profile = record {
  flags = record { base64 = false; quiet = false; profile = profile; returned = []; opaque = [] };
  value = false;
  invalidate = false;
  unnoted = false;
  exptime = None;
  vivify = None;
  recache = None;
  compare = None;
  unique = None;
  amount = None;
  initial = None;
  client_flags = None;
  mode = None;
  direction = None;
}

abbrev pub mode_flag : MetaKind → List ℕ → Result Flag CommandError
mode_flag Set token = ok_or (option_map flag.Mode (mode_of token)) BadFormat
mode_flag Arithmetic token = ok_or (option_map flag.Direction (direction_of token)) BadFormat
mode_flag other token = Err BadFormat

abbrev pub opaque_flag : List ℕ → Result Flag CommandError
opaque_flag token = if nat_lt OPAQUE_LIMIT (length token) then Err OpaqueTooLong else Ok (flag.Opaque token)

-- the meaning of a flag besides being returned
abbrev pub flag_of : MetaKind → ℕ → List ℕ → Result Flag CommandError
flag_of name letter token =
    if letter == byte "b" then Ok flag.Base64
    else (if letter == byte "q" then Ok flag.Quiet
    else (if letter == byte "v" then Ok flag.Value
    else (if letter == byte "I" then Ok flag.Invalidate
    else (if letter == byte "u" then Ok flag.Unnoted
    else (if letter == byte "O" then opaque_flag token
    else (if letter == byte "M" then mode_flag name token
    else (if letter == byte "T" then ok_or (option_map flag.Exptime (integer_of token)) BadFormat
    else (if letter == byte "N" then ok_or (option_map flag.Vivify (integer_of token)) BadFormat
    else (if letter == byte "R" then ok_or (option_map flag.Recache (integer_of token)) BadFormat
    else (if letter == byte "C" then ok_or (option_map flag.Compare (number_of (2 ^ 64) token)) BadFormat
    else (if letter == byte "E" then ok_or (option_map flag.Unique (number_of (2 ^ 64) token)) BadFormat
    else (if letter == byte "D" then ok_or (option_map flag.Amount (number_of (2 ^ 64) token)) BadFormat
    else (if letter == byte "J" then ok_or (option_map flag.Initial (number_of (2 ^ 64) token)) BadFormat
    else (if letter == byte "F" then ok_or (option_map flag.ClientFlags (number_of (2 ^ 32) token)) BadFormat
    else Ok flag.Bare))))))))))))))

-- the state with the meaning of a flag
abbrev pub with_flag : FlagsRead → Flag → FlagsRead
with_flag asked flag.Base64 = record asked { flags = record asked.flags { base64 = true } }
with_flag asked flag.Quiet = record asked { flags = record asked.flags { quiet = true } }
with_flag asked flag.Value = record asked { value = true }
with_flag asked flag.Invalidate = record asked { invalidate = true }
with_flag asked flag.Unnoted = record asked { unnoted = true }
with_flag asked (flag.Opaque token) = record asked { flags = record asked.flags { opaque = token } }
with_flag asked (flag.Mode mode) = record asked { mode = Some mode }
with_flag asked (flag.Direction direction) = record asked { direction = Some direction }
with_flag asked (flag.Exptime exptime) = record asked { exptime = Some exptime }
with_flag asked (flag.Vivify exptime) = record asked { vivify = Some exptime }
with_flag asked (flag.Recache seconds) = record asked { recache = Some seconds }
with_flag asked (flag.Compare unique) = record asked { compare = Some unique }
with_flag asked (flag.Unique unique) = record asked { unique = Some unique }
with_flag asked (flag.Amount amount) = record asked { amount = Some amount }
with_flag asked (flag.Initial number) = record asked { initial = Some number }
with_flag asked (flag.ClientFlags flags) = record asked { client_flags = Some flags }
with_flag asked flag.Bare = asked

-- the state with one more returned flag, if there is one
abbrev pub with_shown : FlagsRead → Option ReturnFlag → FlagsRead
with_shown asked None = asked
with_shown asked (Some shown) =
    record asked { flags = record asked.flags { returned = asked.flags.returned ++ shown ∷ [] } }

-- how many of these letters were seen
abbrev pub seen_count : List Bool → List ℕ → ℕ
seen_count seen [] = 0
seen_count seen (letter ∷ letters) = (if slice_index_or seen letter false then 1 else 0) + seen_count seen letters

-- how many letters of returned flags were seen
unfoldable pub shown_count : List Bool → ℕ
shown_count seen = seen_count seen (codes "cfhklOst")

-- There are as many returned flags as letters of such flags were seen.
pub record CountsFlags (reader : FlagReader) : Type 0 where
  pub wide : length reader.seen ≡ 256
  pub shown : length reader.asked.flags.returned ≡ shown_count reader.seen

-- the state with one more flag
abbrev pub with_word : Rules → MetaKind → FlagReader → List ℕ → Result FlagReader CommandError
with_word rules name reader [] = Err InvalidFlag
with_word rules name reader (letter ∷ token) =
    if not (is_among (letters_by rules.profile name) letter) then Err InvalidFlag
    else (if slice_index_or reader.seen letter false then Err DuplicateFlag
    else then_of (flag_of name letter token) (λ said. Ok (record {
      seen = slice_set reader.seen letter true;
      asked = with_shown (with_flag reader.asked said) (return_flag letter);
    })))

-- nothing was seen
abbrev pub unseen : List Bool
unseen = replicate 256 false
