use Rattle.mc_history.proofs.Holds.{holds}
use Rattle.mc_history.proofs.laws.lawful_histories_hold.Goals as goal

pub returns : goal.returns
returns c = holds
