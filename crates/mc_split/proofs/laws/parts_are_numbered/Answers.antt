-- By induction on the pieces.
use Rattle.mc_split.proofs.Parts.{parts_numbered}
use Rattle.mc_split.proofs.laws.parts_are_numbered.Goals as goal

pub returns : goal.returns
returns c = λ ticket moment asked. parts_numbered 0 ticket moment asked
