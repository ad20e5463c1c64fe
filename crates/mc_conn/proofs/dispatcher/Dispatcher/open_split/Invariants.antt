use Rattle.mc_reply.specs.Server.{no_server}
use Rattle.mc_conn.specs.History.{carrying_out}
use Rattle.mc_conn.proofs.dispatcher.Dispatcher.open_split.Given as goal

-- the command that was split
abbrev pub ghost-and : goal.ghost-and
ghost-and g a = carrying_out a.about.now no_server g.asked
