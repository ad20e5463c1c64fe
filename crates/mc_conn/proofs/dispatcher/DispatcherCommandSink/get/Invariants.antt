use Rattle.std.proofs.Common.{◌∷◌}
use Rattle.mc_wire.specs.Words.{words_of}
use Rattle.mc_fast.specs.FastCommand.{get_of}
use Rattle.mc_conn.proofs.dispatcher.DispatcherCommandSink.get.Given as goal

abbrev pub ghost-open_split : goal.ghost-open_split
ghost-open_split a = get_of (a.about.now.0.now ∷ words_of a.about.now.1.now) a.about.now.2
