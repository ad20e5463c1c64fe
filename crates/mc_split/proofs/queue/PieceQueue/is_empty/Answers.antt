use Rattle.std.proofs.Common.{◌==◌, ap, ◌∙◌}
use Rattle.mc_split.proofs.Entries.{empty_without, some_with}
use Rattle.mc_split.proofs.queue.PieceQueue.is_empty.Goals as goal

pub returns-then-is_none : goal.returns-then-is_none
returns-then-is_none c =
    let queue = c.self.inside in
    rw (← c.self.view_is) (empty_without queue.begun queue.entries.items c.is_none.result c.is_empty.result
    c.self.invariant.1 c.is_none.ensures c.if-is_none.true (c.is_empty.ensures ∙ ap (λ n. n == 0) queue.entries.ok.0))

pub returns-else-is_none : goal.returns-else-is_none
returns-else-is_none c =
    let queue = c.self.inside in
    rw (← c.self.view_is) (some_with queue.begun queue.entries.items c.is_none.result c.self.invariant.0
    c.is_none.ensures c.if-is_none.false)
