use Rattle.std.proofs.Common.{[], ◌∷◌}
use Rattle.mc_fast.specs.FastCommand.{get_of}
use Rattle.mc_reply.specs.Server.{no_server}
use Rattle.mc_conn.specs.History.{carrying_out}
use Rattle.mc_conn.proofs.dispatcher.DispatcherCommandSink.get_one.Given as goal

abbrev pub ghost-and : goal.ghost-and
ghost-and a = carrying_out a.about.now.0 no_server (get_of (a.about.now.1.now ∷ []) a.about.now.2)
