use Rattle.mc_history.proofs.member.Member.add.Given as goal

-- the event that is added
abbrev pub ghost-add : goal.ghost-add
ghost-add g a = g.event
