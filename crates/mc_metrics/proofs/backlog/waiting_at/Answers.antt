-- The sum of the lines, with a bound at each of them, is the sum with the bound.
use Rattle.std.proofs.Common.{◌∙◌, ◌+◌, rules}
use Rattle.std.specs.Str.Lines.{lines}
use Rattle.std.proofs.lemmas.Iterator.Consumers.{fold_from_yields_List}
use Rattle.std.proofs.lemmas.Iterator.Splits.{YieldsList-from_lines}
use Rattle.mc_metrics.specs.Backlog.{saturated, waiting_at, waiting_in}
use Rattle.mc_metrics.proofs.BacklogLemmas.{saturating_sums}
use Rattle.mc_metrics.proofs.backlog.waiting_at.Goals as goal

pub returns : goal.returns
unfolding waiting_at
returns c =
    fold_from_yields_List _ (λ before line. saturated (before + waiting_in c.args.ports.now line)) 0 c.fold.result
    c.fold.ensures.ran (YieldsList-from_lines c.args.table.now c.lines.ensures.rest)
    (λ before x after q k. search rules)
    ∙ saturating_sums (waiting_in c.args.ports.now) (lines c.args.table.now) 0
