-- Common lines and their commands.
use Rattle.std.specs.Prelude.{ℕ, ℤ, ◌≡◌, ◌≤◌, Bool, true, false, List, [], ◌∷◌, Some, None}
use Rattle.mc_wire.specs.Key.{key_fault}
use Rattle.mc_wire.specs.Words.{words_of}
use Rattle.mc_wire.specs.declared.TheConstants.{MAX_VALUE_LIMIT}
use Rattle.mc_command.specs.Blocks.{block_line, whole_line}
use Rattle.mc_command.specs.Field.{AreKeys}
use Rattle.mc_command.specs.Meta.{meta_command_of}
use Rattle.mc_command.specs.declared.meta.MetaKind.TheVariants as kind
use Rattle.mc_command.specs.declared.command.Command.{Command}
use Rattle.mc_command.specs.declared.command.Command.TheVariants as command
use Rattle.mc_command.specs.declared.command.StoreMode.TheVariants as mode
use Rattle.mc_command.specs.declared.line.Line.{Line}
use Rattle.mc_command.specs.declared.line.Line.TheVariants.{Whole, Data}
use Rattle.mc_command.specs.declared.rules.Profile.{Profile}
use Rattle.mc_command.specs.declared.rules.Rules.{Rules}
use Rattle.mc_fast.specs.declared.fast_command.FastCommand.{FastCommand}
use Rattle.mc_fast.specs.declared.fast_command.FastCommand.TheVariants as plain

-- get, or gets with uniques, of these keys
abbrev pub get_of : List (List ℕ) → Bool → Command
get_of keys with_unique = command.Get (record { keys = keys; touch = None; with_unique = with_unique })

-- set, with this block
abbrev pub set_of : List ℕ → ℕ → ℤ → Bool → List ℕ → Command
set_of key flags exptime noreply block =
    command.Store (record {
      asked = record {
        key = key;
        mode = mode.Set;
        compare = None;
        unique = None;
        flags = flags;
        exptime = exptime;
        value = block;
      };
      noreply = noreply;
      lenient = false;
    })

-- mg with the flag v alone
abbrev pub meta_get_of : Profile → List ℕ → Command
meta_get_of profile key =
    command.MetaGet (record {
      asked = record {
        key = key;
        touch = None;
        vivify = None;
        recache = None;
        unnoted = false;
      };
      flags = record { base64 = false; quiet = false; profile = profile; returned = []; opaque = [] };
      value = true;
    })

-- The relation between a common line and the result of the command table. The flags of mg and ms are not
-- parsed yet, so the line may still be refused; the length of a block is within the value limit.
abbrev pub IsFastCommand : Rules → Line → FastCommand → Type 0
IsFastCommand rules line plain.NoOp = line ≡ Whole command.MetaNoop
IsFastCommand rules line (plain.GetOne key with_unique) =
    (key_fault key.now ≡ None) × (line ≡ Whole (get_of (key.now ∷ []) with_unique))
IsFastCommand rules line (plain.Get first others with_unique) =
    (key_fault first.now ≡ None) × AreKeys (words_of others.now)
    × (line ≡ Whole (get_of (first.now ∷ words_of others.now) with_unique))
IsFastCommand rules line (plain.MetaGetValue key) =
    (key_fault key.now ≡ None) × (line ≡ Whole (meta_get_of rules.profile key.now))
IsFastCommand rules line (plain.MetaGet word flags) =
    line ≡ whole_line (meta_command_of rules kind.Get word.now (words_of flags.now))
IsFastCommand rules line (plain.Set key flags exptime noreply count) =
    (key_fault key.now ≡ None) × (line ≡ Data (set_of key.now flags exptime noreply []) count)
IsFastCommand rules line (plain.MetaSet word flags count) =
    (count ≤ MAX_VALUE_LIMIT) × (count ≤ rules.value_limit)
    × (line ≡ block_line rules (Some count) (meta_command_of rules kind.Set word.now (words_of flags.now)))
IsFastCommand rules line plain.Other = Unit {0}
