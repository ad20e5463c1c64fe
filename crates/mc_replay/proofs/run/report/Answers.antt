-- The three parts of the text, one after another.
use Rattle.mc_replay.proofs.Telling.{report_is}
use Rattle.mc_replay.proofs.run.report.Goals as goal

pub returns : goal.returns
returns c = λ sizes w stands.
    report_is sizes w c.args.done c.args.idle c.log.result.now _ _ _ _ c.new-text.ensures.items
    (c.in_ok-push_connections.ensures sizes w stands)
    c.in_ok-push_log.ensures c.in_ok-push_counts.ensures (c.log.ensures sizes w stands)
