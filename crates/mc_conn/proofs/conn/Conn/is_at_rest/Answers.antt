use Rattle.std.proofs.Common.{not, refl, sym, ap, ◌∙◌}
use Rattle.mc_conn.specs.Conn.{IsConn}
use Rattle.mc_conn.specs.Flow.{IsAllTaken}
use Rattle.mc_conn.proofs.Calls.{rest_broken, rest_unread, rest_whole}
use Rattle.mc_conn.proofs.conn.Conn.is_at_rest.Goals as goal

pub returns-then-self : goal.returns-then-self
unfolding IsConn
returns-then-self c flow h =
    rest_broken c.args.self.now flow c.passes.result c.waiting.result ((c.if-has_piece.ensures flow h).0 refl)
    c.if-self.true c.passes.ensures.joined c.waiting.ensures.count h

pub returns-then-not-whole : goal.returns-then-not-whole
unfolding IsConn
returns-then-not-whole c flow h =
    let all : IsAllTaken flow = (c.if-not-whole.ensures.all flow h).0 refl in
    rest_whole c.args.self.now flow c.waiting-then-not-whole.result ((c.if-has_piece.ensures flow h).0 refl)
    c.if-self.false all c.waiting-then-not-whole.ensures.count h

pub returns-else-not-whole : goal.returns-else-not-whole
unfolding IsConn
returns-else-not-whole c flow h =
    rest_unread flow c.whole.result (sym h.broken ∙ c.if-self.false) (ap not c.if-not-whole.false)
    (c.whole.ensures.all flow h)
