-- One lemma an event.
use Rattle.mc_model.proofs.Worlds.{at_begin}
use Rattle.mc_model.proofs.Every.{event_kept}
use Rattle.mc_model.proofs.laws.every_event_keeps_the_law.Goals as goal

pub returns-clause-begin : goal.returns-clause-begin
returns-clause-begin c = at_begin

pub returns-clause-step : goal.returns-clause-step
returns-clause-step c sizes w later event reply within law happens =
    event_kept sizes w event reply later within.shards.0 happens law
