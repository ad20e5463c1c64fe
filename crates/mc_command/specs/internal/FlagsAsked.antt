-- The flags of a line, those of all commands together, and the command that is made of them.
use Rattle.std.specs.Prelude.{ℕ, ℤ, pos, ◌^◌, List, [], Option, None, unwrap_or, option_and_then, Result, Ok}
use Rattle.std.specs.Option.{option_map}
use Rattle.std.specs.Str.{byte}
use Rattle.mc_wire.specs.Number.{integer_of}
use Rattle.mc_command.specs.declared.command.Command.{Command}
use Rattle.mc_command.specs.declared.command.Command.TheVariants as command
use Rattle.mc_command.specs.declared.command.Direction.{Direction}
use Rattle.mc_command.specs.declared.command.Direction.TheVariants.{Increment}
use Rattle.mc_command.specs.declared.meta.MetaArithmetic.{MetaArithmetic}
use Rattle.mc_command.specs.declared.meta.MetaDelete.{MetaDelete}
use Rattle.mc_command.specs.declared.meta.MetaGet.{MetaGet}
use Rattle.mc_command.specs.declared.command.StoreMode.{StoreMode}
use Rattle.mc_command.specs.declared.command.StoreMode.TheVariants as mode
use Rattle.mc_command.specs.declared.meta.MetaSet.{MetaSet}
use Rattle.mc_command.specs.declared.meta_flags.FlagsRead.{FlagsRead}
use Rattle.mc_command.specs.declared.meta.MetaKind.{MetaKind}
use Rattle.mc_command.specs.declared.meta.MetaKind.TheVariants.{Get, Set, Delete, Arithmetic}
use Rattle.mc_command.specs.declared.error.CommandError.{CommandError}
use Rattle.mc_command.specs.declared.rules.Rules.{Rules}
use Rattle.mc_command.specs.Field.{exptime_by}
use Rattle.mc_command.specs.Meta.{compare_by, compare_refusal, direction_of, flags_of, has_flag, mode_of, token_of}
use Rattle.mc_command.specs.Meta.{unless, unsigned_token, vivify_of}

-- the signed number in a flag's token
abbrev pub signed_token : ℕ → List (List ℕ) → Option ℤ
signed_token letter words = option_and_then integer_of (token_of letter words)

-- the exptime, or the seconds, in a token
abbrev pub exptime_in : Rules → Option ℤ → Option ℤ
exptime_in rules token = option_map (exptime_by rules) token

-- the mode of `ms` in a token
abbrev pub mode_in : MetaKind → Option (List ℕ) → Option StoreMode
mode_in Set token = option_and_then mode_of token
mode_in other token = None

-- the mode of `ma` in a token
abbrev pub direction_in : MetaKind → Option (List ℕ) → Option Direction
direction_in Arithmetic token = option_and_then direction_of token
direction_in other token = None

-- all flags of a line, each by a lookup
abbrev pub asked_of : Rules → MetaKind → List (List ℕ) → FlagsRead
asked_of rules name words = record {
  flags = flags_of rules.profile words;
  value = has_flag (byte "v") words;
  invalidate = has_flag (byte "I") words;
  unnoted = has_flag (byte "u") words;
  exptime = signed_token (byte "T") words;
  vivify = signed_token (byte "N") words;
  recache = signed_token (byte "R") words;
  compare = unsigned_token (2 ^ 64) (byte "C") words;
  unique = unsigned_token (2 ^ 64) (byte "E") words;
  amount = unsigned_token (2 ^ 64) (byte "D") words;
  initial = unsigned_token (2 ^ 64) (byte "J") words;
  client_flags = unsigned_token (2 ^ 32) (byte "F") words;
  mode = mode_in name (token_of (byte "M") words);
  direction = direction_in name (token_of (byte "M") words);
}

-- the command made of the flags, with the defaults of missing ones

abbrev pub get_by : Rules → List ℕ → FlagsRead → MetaGet
get_by rules key asked = record {
  asked = record {
    key = key;
    touch = exptime_in rules asked.exptime;
    vivify = exptime_in rules asked.vivify;
    recache = exptime_in rules asked.recache;
    unnoted = asked.unnoted;
  };
  flags = asked.flags;
  value = asked.value;
}

abbrev pub set_by : Rules → List ℕ → FlagsRead → MetaSet
set_by rules key asked = record {
  asked = record {
    key = key;
    mode = unwrap_or asked.mode mode.Set;
    compare = compare_by rules (unwrap_or asked.mode mode.Set) asked.compare;
    unique = asked.unique;
    flags = unwrap_or asked.client_flags 0;
    exptime = unwrap_or (exptime_in rules asked.exptime) (pos 0);
    value = [];
  };
  flags = asked.flags;
}

abbrev pub delete_by : Rules → List ℕ → FlagsRead → MetaDelete
delete_by rules key asked = record {
  asked = record {
    key = key;
    compare = asked.compare;
    unique = asked.unique;
    invalidate = asked.invalidate;
    exptime = exptime_in rules asked.exptime;
  };
  flags = asked.flags;
}

abbrev pub arithmetic_by : Rules → List ℕ → FlagsRead → MetaArithmetic
arithmetic_by rules key asked = record {
  asked = record {
    key = key;
    compare = compare_by rules mode.Append asked.compare;
    unique = asked.unique;
    direction = unwrap_or asked.direction Increment;
    amount = unwrap_or asked.amount 1;
    exptime = exptime_in rules asked.exptime;
    vivify = vivify_of (exptime_in rules asked.vivify) (unwrap_or asked.initial 0);
  };
  flags = asked.flags;
  value = asked.value;
}

-- the command of this key and these flags
abbrev pub command_by : Rules → MetaKind → List ℕ → FlagsRead → Result Command CommandError
command_by rules Get key asked = Ok (command.MetaGet (get_by rules key asked))
command_by rules Set key asked =
    unless (compare_refusal rules (set_by rules key asked)) (Ok (command.MetaSet (set_by rules key asked)))
command_by rules Delete key asked = Ok (command.MetaDelete (delete_by rules key asked))
command_by rules Arithmetic key asked = Ok (command.MetaArithmetic (arithmetic_by rules key asked))
