-- Freeing memory changes nothing of the connection.
use Rattle.mc_conn.proofs.conn.Conn.renew.Goals as goal

pub returns-clause-new : goal.returns-clause-new
returns-clause-new c renewed = rw c.free_spare.ensures (c.reset-renewed.ensures.new renewed)
