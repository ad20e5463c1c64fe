-- The words are the filled parts of the line between spaces.
use Rattle.std.proofs.Common.{◌∙◌, ap, lit<, rules, tests}
use Rattle.std.specs.Prelude.{[], unwrap_or}
use Rattle.std.proofs.lemmas.Iterator.Consumers.{YieldsList-at, YieldsList-from_filter, nth_from_yields_List}
use Rattle.std.proofs.lemmas.Iterator.Splits.{YieldsList-from_str_split}
use Rattle.mc_wire.specs.Words.{words_of, is_filled}
use Rattle.mc_metrics.specs.Backlog.{word_at}
use Rattle.mc_metrics.proofs.BacklogLemmas.{filled_if, text_or}
use Rattle.mc_metrics.proofs.backlog.word_at.Goals as goal

pub returns : goal.returns
unfolding word_at words_of
returns c =
    let found = nth_from_yields_List _ _ c.args.place c.nth.ensures.ran
    (YieldsList-from_filter _ is_filled
    (YieldsList-at c.filter-words.ensures.source
    (YieldsList-from_str_split 32 c.args.line.now (lit< tt) c.split.ensures.text c.split.ensures.has_more
    c.split.ensures.pattern))
    c.filter-words.ensures.closure (λ x r q k. search (rules, tests, filled_if (x.now)))) in
    ap (λ x. x.now) c.unwrap_or.ensures ∙ text_or c.nth.result _ ∙ ap (λ o. unwrap_or o []) found
