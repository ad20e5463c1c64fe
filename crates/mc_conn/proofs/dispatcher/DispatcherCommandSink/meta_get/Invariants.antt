use Rattle.mc_command.specs.declared.command.Command.TheVariants.{MetaGet}
use Rattle.mc_conn.proofs.dispatcher.DispatcherCommandSink.meta_get.Given as goal

abbrev pub ghost-open_split : goal.ghost-open_split
ghost-open_split a = MetaGet a.about.now.value
