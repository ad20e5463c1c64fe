use Rattle.mc_command.specs.declared.command.Command.TheVariants.{MetaSet}
use Rattle.mc_command.specs.Command.{with_block}
use Rattle.mc_conn.proofs.dispatcher.DispatcherCommandSink.meta_set.Given as goal

abbrev pub ghost-open_split : goal.ghost-open_split
ghost-open_split a = with_block (MetaSet a.about.now.0.value) a.about.now.1.now
