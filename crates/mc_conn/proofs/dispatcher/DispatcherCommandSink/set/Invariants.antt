use Rattle.mc_fast.specs.FastCommand.{set_of}
use Rattle.mc_reply.specs.Server.{no_server}
use Rattle.mc_conn.specs.History.{carrying_out}
use Rattle.mc_conn.proofs.dispatcher.DispatcherCommandSink.set.Given as goal

abbrev pub ghost-and : goal.ghost-and
ghost-and a =
    let asked = a.about.now in
    carrying_out asked.0 no_server (set_of asked.1.now asked.2 asked.3 asked.4 asked.5.now)
