use Rattle.mc_cells.proofs.Held.{kept_is_there, kept_front}
use Rattle.mc_cells.proofs.Places.{places_differ}
use Rattle.mc_cells.proofs.laws.every_kept.Goals as goal

pub returns : goal.returns
returns c = assumption (kept_is_there, kept_front, places_differ)
