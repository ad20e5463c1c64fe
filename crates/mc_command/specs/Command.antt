-- Commands as a whole: their data blocks, and which may be refused for want of memory.
use Rattle.std.specs.Prelude.{ℕ, Bool, true, false, List}
use Rattle.mc_command.specs.declared.command.Command.{Command}
use Rattle.mc_command.specs.declared.command.Command.TheVariants as command
use Rattle.mc_command.specs.declared.command.StatsRequest.TheVariants as request
use Rattle.mc_command.specs.declared.command.StoreRequest.{StoreRequest}
use Rattle.mc_command.specs.declared.error.CommandError.{CommandError}
use Rattle.mc_command.specs.declared.error.CommandError.TheVariants as refusal

-- the request with this value
abbrev pub with_value : {V : Type 0} → StoreRequest V → V → StoreRequest V
with_value asked value = record asked { value = value }

-- the command with this data block; a command without one is unchanged
abbrev pub with_block : Command → List ℕ → Command
with_block (command.Store storage) block = command.Store (record storage { asked = with_value storage.asked block })
with_block (command.MetaSet set) block = command.MetaSet (record set { asked = with_value set.asked block })
with_block other block = other

-- The refusal is "out of memory".
abbrev pub is_memory : CommandError → Bool
is_memory refusal.Memory = true
is_memory other = false

-- The command is that refusal.
abbrev pub is_memory_refusal : Command → Bool
is_memory_refusal (command.Refused told) = is_memory told
is_memory_refusal other = false

-- Memory may be refused while a line with this error is parsed, before the error is found.
abbrev pub refusal_takes_memory : CommandError → Bool
refusal_takes_memory refusal.Unknown = false
refusal_takes_memory refusal.LineTooLong = false
refusal_takes_memory refusal.Memory = false
refusal_takes_memory refusal.ShutdownDisabled = false
refusal_takes_memory refusal.ShutdownMode = false
refusal_takes_memory other = true

-- A command with a request to a shard may be refused for want of memory, and so may a line that is refused
-- while it is parsed.
abbrev pub can_give_up : Command → Bool
can_give_up (command.Version profile) = false
can_give_up (command.Verbosity noreply) = false
can_give_up command.Quit = false
can_give_up command.Shutdown = false
can_give_up command.MetaNoop = false
can_give_up (command.Stats request.Empty) = false
can_give_up (command.Refused told) = refusal_takes_memory told
can_give_up other = true
