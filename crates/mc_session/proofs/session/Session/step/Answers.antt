-- What it serves the line by says how the line goes on.
use Rattle.std.proofs.Common.{sym, subst}
use Rattle.mc_transport.specs.BufferedConn.{AreOneLine, WaitsForLine}
use Rattle.mc_transport.specs.Place.{Place}
use Rattle.mc_session.specs.Records.{IsLineOf}
use Rattle.mc_session.proofs.OneLine.{both, same_session, served_same, some_served}
use Rattle.mc_session.proofs.Placing.{history_route, line_kept}
use Rattle.mc_session.proofs.Sessions.{some_so, steps_on}
use Rattle.mc_session.specs.Service.{AwaitsShards, IsServedBy, ServesSomeLine}
use Rattle.std.specs.Prelude.{◌⊎◌}
use Rattle.mc_session.proofs.session.Session.step.Goals as goal

pub step-step-requires : goal.step-step-requires
step-step-requires g c =
    let may_answer = g.K.Clock.may_answer c.args.clock.now in
    let place = g.L.Transport.place c.args.line.now in
    let now = g.L.Transport.sight c.args.line.now in
    let link = c.args.self.now.shard_link in
    let line = c.in-Some.buffered_conn.value in
    rw c.deref_mut.ensures.value
    (both c.args.self.now.buffered_conn (λ was. AreOneLine was line) (ServesSomeLine may_answer place now link)
    (ServesSomeLine may_answer place now link line) c.in-Some.ensures.some c.requires
    (λ was same serves. some_served may_answer place now link was line same serves))

pub returns-clause-says : goal.returns-clause-says
returns-clause-says g c shards rules begin before serving =
    let may_answer = g.K.Clock.may_answer c.args.clock.now in
    let now = g.L.Transport.sight c.args.line.now in
    let link = c.args.self.now.shard_link in
    let line = c.in-Some.buffered_conn.value in
    let served = both c.args.self.now.buffered_conn (λ was. AreOneLine was line)
    (IsServedBy shards rules may_answer begin now before link)
    (IsServedBy shards rules may_answer begin now before link line)
    c.in-Some.ensures.some serving
    (λ was same serves. served_same shards rules may_answer begin now before link was line same serves) in
    steps_on c.step-step.result shards rules may_answer begin _ before _ c.step-step.new.buffered_conn c.put.ensures
    (c.step-step.ensures.says shards rules begin before (rw c.deref_mut.ensures.value served))

pub returns-clause-waits : goal.returns-clause-waits
returns-clause-waits g c waits =
    some_so c.put.new.self c.step-step.new.buffered_conn (λ line. AwaitsShards c.step-step.new.self ⊎ WaitsForLine line)
    c.put.ensures (c.step-step.ensures.waits waits)

pub returns-clause-line : goal.returns-clause-line
returns-clause-line g c rules begin line =
    subst (λ (place : Place). IsLineOf c.step-step.new.self rules place begin) (sym c.step-step.ensures.place)
    (line_kept c.args.self.now.shard_link c.step-step.new.self rules _ begin c.step-step.ensures.kept line)

pub returns-clause-history : goal.returns-clause-history
returns-clause-history g c =
    history_route c.args.self.now.shard_link c.step-step.new.self c.step-step.ensures.kept.route

pub returns-in_default-clause-refused : goal.returns-in_default-clause-refused
returns-in_default-clause-refused g c =
    rw c.in_default.ensures.none (same_session c.args.self.now _ _)
