use Rattle.std.proofs.Common.{map}
use Rattle.std.specs.Vec.Iter.{into_iter_items}
use Rattle.mc_poll.proofs.Joining.{Joins}
use Rattle.mc_poll.proofs.thread_group.ThreadGroup.join.Given as goal

abbrev pub invariant-loop-handle : goal.invariant-loop-handle
invariant-loop-handle g l =
    Joins g.T.Task.does l.fn.self l.done.items
    (map (λ handle. handle.promise.0.value) (into_iter_items l.handle-iterator)) l.all
