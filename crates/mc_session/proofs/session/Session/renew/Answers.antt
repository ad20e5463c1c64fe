-- The seat may serve the next line.
use Rattle.std.proofs.Common.{subst}
use Rattle.mc_session.specs.Session.{IsReady}
use Rattle.mc_session.proofs.OneLine.{ready_again}
use Rattle.mc_session.proofs.session.Session.renew.Goals as goal

pub returns-clause-vacant : goal.returns-clause-vacant
returns-clause-vacant g c renewed buffered_conn flow is of width idle recorded =
    let new = record c.args.self.now { buffered_conn = c.renew.new.self } in
    record {
      ready =
          subst (λ n. IsReady n flow.rules flow.window new c.renew.new.self) width
          (ready_again flow.shards flow.rules flow.window new c.renew.new.self
          (c.renew.ensures.new renewed buffered_conn flow is of));
      idle = idle;
      recorded = recorded;
    }
