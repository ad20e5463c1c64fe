-- The five parts, one after another.
use Rattle.std.proofs.Common.{◌≡◌, ℕ, List, ◌∙◌, ◌++◌, ap, append_assoc}
use Rattle.mc_metrics.specs.Metrics.{commands_text, cpu_text, ends_text, numbers_text, version_text}
use Rattle.mc_metrics.proofs.text.metrics_of.Goals as goal

-- four parts behind a first one
five : (a b c d e : List ℕ) → a ++ b ++ c ++ d ++ e ≡ a ++ (b ++ (c ++ (d ++ e)))
five a b c d e = append_assoc (a ++ b ++ c) d e ∙ (append_assoc (a ++ b) c (d ++ e) ∙ append_assoc a b (c ++ (d ++ e)))

pub returns : goal.returns
returns c =
    let reading = c.args.reading.now in
    let numbers = numbers_text reading in
    let cpu = cpu_text reading.process.cpu in
    let ends = ends_text reading.totals.ends in
    let commands = commands_text reading.totals.shards in
    let first = c.in_ok-push_metrics.ensures ∙ ap (λ front. front ++ numbers) c.in_ok-text.ensures in
    let second = c.in_ok-push_cpu.ensures ∙ ap (λ front. front ++ cpu) first in
    let third = c.in_ok-push_ends.ensures ∙ ap (λ front. front ++ ends) second in
    c.in_ok-push_commands.ensures ∙
    (ap (λ front. front ++ commands) third ∙ five (version_text reading.facts.version.now) numbers cpu ends commands)
