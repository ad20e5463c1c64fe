-- Which commands ask for the server's end (protocol.txt, "Other commands").
use Rattle.std.specs.Prelude.{Bool, true, false, List}
use Rattle.std.specs.List.{list_any}
use Rattle.mc_command.specs.declared.command.Command.{Command}
use Rattle.mc_command.specs.declared.command.Command.TheVariants as command
use Rattle.mc_conn.specs.History.{Taken}

-- The command asks for the server's end.
abbrev pub is_shutdown : Command → Bool
is_shutdown command.Shutdown = true
is_shutdown other = false

-- One of the commands taken asks for the server's end.
abbrev pub asks_shutdown : List Taken → Bool
asks_shutdown taken = list_any (λ (one : Taken). is_shutdown one.entry) taken
