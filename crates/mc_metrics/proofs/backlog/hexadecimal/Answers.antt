use Rattle.std.proofs.Common.{◌∙◌}
use Rattle.mc_metrics.proofs.BacklogLemmas.{reads_hexadecimal}
use Rattle.mc_metrics.proofs.backlog.hexadecimal.Goals as goal

pub returns : goal.returns
returns c =
    c.ok.ensures.value ∙ reads_hexadecimal c.args.text.now c.from_str_radix.result c.from_str_radix.ensures.value
