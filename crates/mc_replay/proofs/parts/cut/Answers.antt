-- Cutting at the first separator leaves the parts as they are.
use Rattle.mc_replay.proofs.Splitting.{parts_at, parts_nowhere}
use Rattle.mc_replay.proofs.parts.cut.Goals as goal

pub returns-in-Some : goal.returns-in-Some
returns-in-Some c = parts_at c.args.separator c.args.text.now c.in-Some.at c.in-Some.ensures

pub returns-in-None : goal.returns-in-None
returns-in-None c = parts_nowhere c.args.separator c.args.text.now c.in-None.ensures
