-- The connection that is out begins, or waits with its output ended.
use Rattle.std.proofs.Common.{refl}
use Rattle.mc_serve.proofs.Steps.{begins_where, stands_out, unbegun_yet}
use Rattle.mc_serve.proofs.connection_slot.ConnectionSlot.begin.Goals as goal

pub returns-then-begun : goal.returns-then-begun
returns-then-begun g c shards rules was stands =
    let may_answer = g.K.Clock.may_answer c.args.clock.now in
    let yet = unbegun_yet shards rules may_answer (λ line. g.D.Transport.Transport.place line) c.args.self.now.session
    c.args.self.now.slot_state c.in-Out.line c.in-Out.begun c.in-Out.is c.requires in
    let out = stands_out shards rules may_answer (λ line. g.D.Transport.Transport.place line)
    (λ line. g.D.Transport.Transport.sight line)
    was (g.D.ConnectionSource.flow c.args.self.now.source) c.args.self.now.session c.args.self.now.slot_state
    c.in-Out.line c.in-Out.line c.in-Out.begun c.in-Out.is refl refl stands in
    rw c.is_ok.ensures.value
    (begins_where shards rules may_answer (λ line. g.D.Transport.Transport.place line)
    (λ line. g.D.Transport.Transport.sight line) was _ _ c.in-Out.line c.begin.new.line _
    c.args.self.now.session c.begin.new.self c.begin.result c.begin.ensures.serving c.begin.ensures.line
    c.begin.ensures.refused c.begin.ensures.unplaced refl refl c.begin.ensures.sight (rw yet at out))
