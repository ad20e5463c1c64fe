use Rattle.mc_poll.proofs.Joining.{joins_less, joins_more}
use Rattle.mc_poll.proofs.thread_group.ThreadGroup.join.Goals as goal

pub loop-handle-preserved-in-Err : goal.loop-handle-preserved-in-Err
loop-handle-preserved-in-Err g c =
    joins_less g.T.Task.does _ _ _ _ _ _ _ (rw c.in-Some.ensures.steps.0 at c.loop-handle.invariant)

pub loop-handle-preserved-in_default : goal.loop-handle-preserved-in_default
loop-handle-preserved-in_default g c =
    rw c.in_default.ensures.items
    (joins_more g.T.Task.does _ _ _ _ _ _ (rw c.in-Some.ensures.steps.0 at c.loop-handle.invariant)
    c.in-Some-join.ensures)

pub loop-handle-preserved : goal.loop-handle-preserved
loop-handle-preserved g c =
    joins_less g.T.Task.does _ _ _ _ _ _ _ (rw c.in-Some.ensures.steps.0 at c.loop-handle.invariant)
