use Rattle.mc_command.specs.declared.command.Command.TheVariants.{Shutdown}
use Rattle.mc_reply.specs.Server.{no_server}
use Rattle.mc_conn.specs.History.{carrying_out}
use Rattle.mc_conn.proofs.dispatcher.Dispatcher.open_shutdown.Given as goal

abbrev pub ghost-and_shutdown : goal.ghost-and_shutdown
ghost-and_shutdown a = carrying_out a.about.now no_server Shutdown
