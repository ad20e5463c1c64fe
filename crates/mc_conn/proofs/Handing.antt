-- All replies whose turn has come were handed out: those before, and those that waited.
use Rattle.std.proofs.Common.{◌≡◌, ℕ, ◌+◌, List, [], ◌++◌, length, take, drop, sym, ap, ◌∙◌, arith}
use Rattle.std.specs.List.{concat}
use Rattle.std.proofs.lemmas.List.{drop_all, take-append-drop, take_all}
use Rattle.std.proofs.lemmas.List.Folds.{concat-append}
use Rattle.mc_conn.specs.Flow.{Flow, all_texts, handed_text, waiting_text}

-- Once all replies whose turn has come are handed out, none of them waits.
pub none_waits : (flow : Flow) (count : ℕ) → flow.handed + count ≡ length (all_texts flow)
    → waiting_text (record flow { handed = flow.handed + count }) ≡ []
none_waits flow count all =
    ap (λ (texts : List (List ℕ)). concat texts) (drop_all (flow.handed + count) (all_texts flow) (omega (arith, all)))

-- Once all replies whose turn has come are handed out, these are those from before and then those that waited.
pub all_together : (flow : Flow) (count : ℕ) → flow.handed + count ≡ length (all_texts flow)
    → handed_text (record flow { handed = flow.handed + count }) ≡ handed_text flow ++ waiting_text flow
all_together flow count all =
    ap (λ (texts : List (List ℕ)). concat texts)
    (take_all (flow.handed + count) (all_texts flow) (omega (arith, all))
    ∙ sym (take-append-drop flow.handed (all_texts flow)))
    ∙ concat-append (take flow.handed (all_texts flow)) (drop flow.handed (all_texts flow))
