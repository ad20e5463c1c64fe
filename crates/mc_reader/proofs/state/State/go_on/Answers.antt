use Rattle.mc_reader.proofs.state.State.go_on.Goals as goal

pub returns-then-last-clause-state : goal.returns-then-last-clause-state
returns-then-last-clause-state c rules limited = rw c.if-last.true c.close.ensures

pub returns-clause-state : goal.returns-clause-state
returns-clause-state c rules limited = rw c.if-last.false (c.begin_line.ensures.holds rules limited)
