use Rattle.std.proofs.Common.{sym, ◌∙◌}
use Rattle.std.proofs.lemmas.Bool.{false≢true}
use Rattle.mc_conn.specs.Conn.{IsConn}
use Rattle.mc_conn.proofs.Calls.{over_at_end, shut_is}
use Rattle.mc_conn.proofs.conn.Conn.is_over.Goals as goal

pub returns-then-is_ended-clause-over : goal.returns-then-is_ended-clause-over
unfolding IsConn
returns-then-is_ended-clause-over c flow h =
    over_at_end flow c.whole.result (sym h.broken ∙ c.if-self.false)
    (λ shut. false≢true (sym c.if-is_closed.false
    ∙ (shut_is c.args.self.now c.is_closed.result c.is_closed.ensures.closed flow h).1 shut))
    (sym (c.is_ended.ensures flow.rules flow.fed flow.ended h.given h.read) ∙ c.if-is_ended.true)
    (c.whole.ensures.all flow h)
