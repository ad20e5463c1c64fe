-- A try is done where the event is enabled.
use Rattle.mc_laws.proofs.Fairness.{tries_fairly}
use Rattle.mc_laws.proofs.progress.what_is_tried_is_fair.Goals as goal

pub returns : goal.returns
returns c sizes w run tries = tries_fairly sizes w run tries
