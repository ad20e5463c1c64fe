use Rattle.mc_command.specs.declared.command.Command.TheVariants.{MetaNoop}
use Rattle.mc_reply.specs.Server.{no_server}
use Rattle.mc_conn.specs.History.{carrying_out}
use Rattle.mc_conn.proofs.dispatcher.DispatcherCommandSink.no_op.Given as goal

abbrev pub ghost-and : goal.ghost-and
ghost-and a = carrying_out a.about.now no_server MetaNoop
