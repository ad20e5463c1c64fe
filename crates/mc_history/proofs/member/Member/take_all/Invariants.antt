use Rattle.mc_history.proofs.member.Member.take_all.Given as goal

-- the commands that are added
abbrev pub ghost-take_all : goal.ghost-take_all
ghost-take_all g a = g.takes
