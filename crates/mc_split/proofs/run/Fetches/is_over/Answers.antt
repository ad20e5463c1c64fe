use Rattle.std.proofs.Common.{deque_len, sym, ◌∙◌, arith}
use Rattle.mc_fast.proofs.Lines.{is_zero}
use Rattle.mc_split.proofs.Entries.{some_is}
use Rattle.mc_split.proofs.Parts.{fetches_none, fetches_some}
use Rattle.mc_split.proofs.run.Fetches.is_over.Goals as goal

pub returns-clause-over : goal.returns-clause-over
returns-clause-over c over =
    let run = c.self.inside in
    rw (← c.self.view_is) (fetches_none run.planner run.touch run.count run.keys.items
    (sym run.keys.ok.0 ∙ is_zero (deque_len run.keys) (sym c.is_empty.ensures ∙ over)))

pub returns-clause-more : goal.returns-clause-more
returns-clause-more c more =
    let run = c.self.inside in
    let count = run.keys.ok.0 in
    rw (← c.self.view_is) (fetches_some run.planner run.touch run.count run.keys.items
    (omega (arith, count, some_is (deque_len run.keys) (sym c.is_empty.ensures ∙ more))))
