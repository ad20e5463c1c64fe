-- The buffers are new for the lines that a vacant seat serves.
use Rattle.std.proofs.Common.{refl}
use Rattle.mc_session.proofs.OneLine.{again_new, first_made, same_session}
use Rattle.mc_session.proofs.session.Session.take_buffered_conn.Goals as goal

pub returns-then-is_unused-clause-new : goal.returns-then-is_unused-clause-new
returns-then-is_unused-clause-new g c =
    first_made c.args.self.now c.new_buffers.result (c.if-is_unused.ensures.unused refl) c.new_buffers.ensures

pub returns-clause-new : goal.returns-clause-new
returns-clause-new g c rules window vacant =
    again_new _ rules window c.args.self.now c.args.self.now.buffered_conn _ vacant.ready c.in-Some.ensures.some

pub returns-in_default-clause-refused : goal.returns-in_default-clause-refused
returns-in_default-clause-refused g c = rw c.in_default.ensures.none (same_session c.args.self.now _ _)
