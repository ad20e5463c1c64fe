use Rattle.std.proofs.Common.{refl}
use Rattle.mc_ring.specs.Reply.{shown}
use Rattle.mc_conn.specs.Conn.{IsConn}
use Rattle.mc_conn.proofs.Calls.{accepts, refuses}
use Rattle.mc_conn.proofs.conn.Conn.accept.Goals as goal

pub returns-clause-ok : goal.returns-clause-ok
unfolding IsConn
returns-clause-ok c =
    accepts c.accept.result c.args.self.now _ (shown c.args.reply) refl refl refl refl refl refl
    c.accept.ensures.expected c.accept.ensures.takes_in c.accept.ensures.joined

pub returns-clause-err : goal.returns-clause-err
unfolding IsConn
returns-clause-err c =
    refuses c.accept.result c.args.self.now _ (shown c.args.reply) refl refl refl refl refl refl
    c.accept.ensures.unexpected c.accept.ensures.unchanged
