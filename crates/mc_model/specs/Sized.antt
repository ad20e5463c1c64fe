-- Definitions of lower crates about streams and shards, at the sizes of a server.
use Rattle.std.specs.Prelude.{ℕ, List}
use Rattle.mc_command.specs.declared.command.Command.{Command}
use Rattle.mc_sizes.specs.Sizes.{rules_of}
use Rattle.mc_sizes.specs.declared.sizes.Sizes.{Sizes}
use Rattle.mc_reader.specs.Spelling.{AreCommands, BeginCommands}
use Rattle.mc_store.specs.State.{State, empty_state}

-- These are all commands of the input.
abbrev pub SpellAll : Sizes → List ℕ → List Command → Type 0
SpellAll sizes bytes commands = AreCommands (rules_of sizes) bytes commands

-- These are the first commands of the input.
abbrev pub SpellFirst : Sizes → List ℕ → List Command → Type 0
SpellFirst sizes bytes commands = BeginCommands (rules_of sizes) bytes commands

-- a shard without items that has assigned no cas unique
abbrev pub empty_shard : Sizes → ℕ → State
empty_shard sizes shard = empty_state shard sizes.shards sizes.bytes 0 sizes.value
