-- By cases on the command.
use Rattle.mc_reply.proofs.Loud.{shown_by_stats}
use Rattle.mc_reply.proofs.laws.only_stats_shows_the_server.Goals as goal

pub returns : goal.returns
returns c = shown_by_stats
