use Rattle.mc_conn.proofs.taken_log.TakenLog.and.Given as goal

abbrev pub ghost-and : goal.ghost-and
ghost-and g a = g.one
