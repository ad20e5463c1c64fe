-- The text is the second part between colons.
use Rattle.std.proofs.Common.{◌∙◌, ap, lit<}
use Rattle.std.specs.Prelude.{[], unwrap_or}
use Rattle.std.proofs.lemmas.Iterator.Consumers.{nth_from_yields_List}
use Rattle.std.proofs.lemmas.Iterator.Splits.{YieldsList-from_str_split}
use Rattle.mc_metrics.specs.Backlog.{behind_colon, hexadecimal}
use Rattle.mc_metrics.proofs.BacklogLemmas.{text_or}
use Rattle.mc_metrics.proofs.backlog.behind_colon.Goals as goal

pub returns : goal.returns
unfolding behind_colon
returns c =
    let found = nth_from_yields_List _ _ 1 c.nth.ensures.ran
    (YieldsList-from_str_split 58 c.args.word.now (lit< tt) c.split.ensures.text c.split.ensures.has_more
    c.split.ensures.pattern) in
    c.hexadecimal.ensures ∙ ap hexadecimal
    (ap (λ x. x.now) c.unwrap_or.ensures ∙ text_or c.nth.result _ ∙ ap (λ o. unwrap_or o []) found)
