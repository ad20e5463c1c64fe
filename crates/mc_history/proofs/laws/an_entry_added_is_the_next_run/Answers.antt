use Rattle.mc_history.proofs.Seeing.{added_entry}
use Rattle.mc_history.proofs.laws.an_entry_added_is_the_next_run.Goals as goal

pub returns : goal.returns
returns c = added_entry
