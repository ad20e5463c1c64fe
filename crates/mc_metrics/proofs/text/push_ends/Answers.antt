-- The reasons follow their HELP and TYPE lines.
use Rattle.std.proofs.Common.{◌∙◌, ◌++◌, ap, string_bytes, append_assoc}
use Rattle.std.proofs.lemmas.Result.{on_ok_weaker}
use Rattle.mc_metrics.specs.Metrics.{before_ends, ends_each}
use Rattle.mc_metrics.proofs.text.push_ends.Goals as goal

pub returns : goal.returns
returns c =
    let each = ends_each c.args.ends.now in
    let front = ap (λ text. text ++ each) c.in_ok-push_str.ensures.bytes in
    on_ok_weaker c.push_each_end.result
    (λ pushed. pushed ∙ (front ∙ append_assoc (string_bytes c.args.text.now) before_ends each)) c.push_each_end.ensures
