-- Nothing was taken of the line yet.
use Rattle.mc_session.proofs.Placing.{history_then, ruled_same}
use Rattle.mc_session.proofs.Serving.{serves_first}
use Rattle.mc_session.proofs.Sessions.{some_so}
use Rattle.mc_session.proofs.session.Session.begin.Goals as goal

pub returns-clause-serving : goal.returns-clause-serving
returns-clause-serving g c rules window begin vacant =
    let made = c.in_ok-buffered_conn.ensures in
    let begun = c.begin_line.ensures in
    some_so c.hold.new.self c.take_all.new.self _ c.hold.ensures
    (serves_first (g.K.Clock.may_answer c.args.clock.now) begin rules window c.args.self.now.shard_link _
    c.begin_line.new.self _ _ made.shard_link begun.ends begun.under_way begun.begins vacant.recorded vacant.idle
    (made.new rules window vacant) (rw c.deref_mut.ensures.value at c.take_all.ensures))

pub returns-clause-line : goal.returns-clause-line
returns-clause-line g c rules ruled =
    c.begin_line.ensures.line rules
    (ruled_same c.args.self.now.shard_link _ rules c.in_ok-buffered_conn.ensures.shard_link ruled)

pub returns-clause-history : goal.returns-clause-history
returns-clause-history g c =
    history_then c.args.self.now.shard_link _ c.begin_line.new.self c.in_ok-buffered_conn.ensures.shard_link
    c.begin_line.ensures.route
