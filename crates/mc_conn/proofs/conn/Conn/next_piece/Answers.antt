use Rattle.std.proofs.Common.{refl}
use Rattle.mc_conn.specs.Conn.{IsConn}
use Rattle.mc_conn.proofs.Calls.{gives_back, gives_front, gives_none, none_back}
use Rattle.mc_conn.proofs.conn.Conn.next_piece.Goals as goal

pub returns-then-is_some-clause-some : goal.returns-then-is_some-clause-some
unfolding IsConn
returns-then-is_some-clause-some c =
    gives_back c.take.result c.args.self.now _ refl refl refl refl refl c.take.ensures.after c.take.ensures.value refl

pub returns-clause-some : goal.returns-clause-some
unfolding IsConn
returns-clause-some c =
    let none = none_back c.args.self.now.put_back c.is_some.result c.is_some.ensures c.if-is_some.false in
    gives_front c.pop.result c.args.self.now _ refl refl refl refl refl none none c.pop.ensures.some

pub returns-clause-none : goal.returns-clause-none
unfolding IsConn
returns-clause-none c =
    let none = none_back c.args.self.now.put_back c.is_some.result c.is_some.ensures c.if-is_some.false in
    gives_none c.pop.result c.args.self.now _ refl refl refl refl refl refl none c.pop.ensures.none c.pop.ensures.left
