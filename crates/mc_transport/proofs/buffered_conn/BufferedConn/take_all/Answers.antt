-- Each round takes a command, or finds why none is taken.
use Rattle.std.proofs.Common.{arith}
use Rattle.mc_transport.proofs.Serving.{takes_full, takes_next, takes_none, takes_stop}
use Rattle.mc_transport.proofs.buffered_conn.BufferedConn.take_all.Goals as goal

pub loop-init : goal.loop-init
loop-init g c received begin now flow serving = takes_none received _ begin now flow _ serving

pub loop-preserved : goal.loop-preserved
loop-preserved g c received begin now flow serving =
    takes_next received _ begin now flow _ _ _ _ c.now-moment.result c.in-Opened.ticket c.now-moment.ensures
    c.in-Opened.ensures.says c.saturating_add-self.ensures (c.loop.invariant received begin now flow serving)

pub returns-in_default : goal.returns-in_default
returns-in_default g c received begin now flow serving =
    takes_stop _ received _ begin now flow _ _ c.now-moment.result c.take.result c.take.ensures.says
    c.in_default.not-Opened _ (c.loop.invariant received begin now flow serving)

pub returns : goal.returns
returns g c received begin now flow serving =
    absurd (takes_full received _ begin now flow _ c.loop.counter (omega arith)
    (c.loop.invariant received begin now flow serving))
