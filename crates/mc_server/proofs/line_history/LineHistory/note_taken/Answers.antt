-- The clerk has recorded what the connection took.
use Rattle.mc_server.proofs.Recording.{history_noted, taken_begin, taken_may}
use Rattle.mc_server.proofs.line_history.LineHistory.note_taken.Goals as goal

pub take_all-requires-clause-opened : goal.take_all-requires-clause-opened
take_all-requires-clause-opened c keeps = c.requires.recorded.opened

pub take_all-requires-clause-begins : goal.take_all-requires-clause-begins
take_all-requires-clause-begins c keeps =
    let can = c.requires in
    taken_begin can.sizes can.place can.begin can.flow can.log _ _ _ can.conn_is can.recorded

pub take_all-requires-clause-may : goal.take_all-requires-clause-may
take_all-requires-clause-may c keeps = taken_may c.requires.flow _ c.requires.conn_is

pub returns : goal.returns
returns c sizes place begin flow log is was =
    let took = c.take_all.ensures in
    history_noted sizes place begin flow log _ c.take_all.new.self _ _ is was (took.opened tt) (took.taken tt)
    (took.work tt) took.answers took.route (took.place tt)
