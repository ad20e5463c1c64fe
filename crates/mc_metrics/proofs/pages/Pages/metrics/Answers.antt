-- The totals of the reading.
use Rattle.std.proofs.Common.{◌≡◌, ap, ◌∙◌}
use Rattle.std.proofs.lemmas.Result.{IfOk-weaker}
use Rattle.mc_metrics.specs.Metrics.{metrics_text}
use Rattle.mc_metrics.proofs.pages.Pages.metrics.Goals as goal

pub returns : goal.returns
returns g c =
    let reading = c.reading.result in
    let is : reading ≡ record {
      facts = c.args.self.now.facts;
      totals = reading.totals;
      waiting = reading.waiting;
      uptime = c.args.self.now.uptime;
      process = reading.process;
    } = rw (c.reading.ensures.facts, c.reading.ensures.uptime) in
    IfOk-weaker c.metrics_of.result _ _
    (λ text told. (
      reading.totals,
      reading.waiting,
      reading.process,
      c.reading.ensures.totals,
      c.reading.ensures.waiting,
      told ∙ ap metrics_text is,
    )) c.metrics_of.ensures
