use Rattle.mcd.proofs.stdio.serve_line.Goals as goal

pub returns-in-Some : goal.returns-in-Some
returns-in-Some g c = record { explained = rw c.in-Some.is c.serve_by.ensures.explained }

pub returns-in-None : goal.returns-in-None
returns-in-None g c = record { explained = rw c.in-None.is c.serve_by-in-None.ensures.explained }
