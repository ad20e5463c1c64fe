-- The record is of the same history.
use Rattle.mc_session.proofs.Placing.{history_route}
use Rattle.mc_session.proofs.session.Session.end_channel.Goals as goal

pub returns-clause-history : goal.returns-clause-history
returns-clause-history g c =
    history_route c.args.self.now.shard_link c.end_channel.new.self c.end_channel.ensures.route
