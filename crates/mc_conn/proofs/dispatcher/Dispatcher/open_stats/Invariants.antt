use Rattle.mc_command.specs.declared.command.Command.TheVariants.{Stats}
use Rattle.mc_command.specs.declared.command.StatsRequest.TheVariants.{General}
use Rattle.mc_conn.specs.History.{carrying_out}
use Rattle.mc_conn.proofs.dispatcher.Dispatcher.open_stats.Given as goal

-- `stats`, of this server
abbrev pub ghost-and : goal.ghost-and
ghost-and a = carrying_out a.about.now.0 a.about.now.1 (Stats General)
