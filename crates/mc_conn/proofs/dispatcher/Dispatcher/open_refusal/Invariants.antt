use Rattle.mc_command.specs.declared.command.Command.TheVariants.{Refused}
use Rattle.mc_command.specs.declared.error.CommandError.TheVariants.{Memory}
use Rattle.mc_reply.specs.Server.{no_server}
use Rattle.mc_conn.specs.History.{carrying_out}
use Rattle.mc_conn.proofs.dispatcher.Dispatcher.open_refusal.Given as goal

-- the refusal
abbrev pub ghost-and : goal.ghost-and
ghost-and a = carrying_out a.about.now no_server (Refused Memory)
