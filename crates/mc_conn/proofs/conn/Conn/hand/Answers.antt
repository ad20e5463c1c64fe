-- Freeing memory changes nothing of the connection.
use Rattle.mc_conn.proofs.conn.Conn.hand.Goals as goal

pub returns-clause-ok : goal.returns-clause-ok
returns-clause-ok g c = rw c.free_spare.ensures c.hand_due-handed.ensures.ok

pub returns-clause-gone : goal.returns-clause-gone
returns-clause-gone g c = rw c.free_spare.ensures c.hand_due-handed.ensures.gone

pub returns-clause-silent : goal.returns-clause-silent
returns-clause-silent g c = rw c.free_spare.ensures c.hand_due-handed.ensures.silent
