use Rattle.mc_conn.proofs.dispatcher.DispatcherCommandSink.other.Given as goal

abbrev pub ghost-open_split : goal.ghost-open_split
ghost-open_split a = a.about.now.value
