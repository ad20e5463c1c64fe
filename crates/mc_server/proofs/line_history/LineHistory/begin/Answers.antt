-- The clerk has opened the line's connection.
use Rattle.std.proofs.Common.{◌∙◌}
use Rattle.mc_server.proofs.Recording.{history_begins}
use Rattle.mc_server.proofs.line_history.LineHistory.begin.Goals as goal

pub returns-clause-begins : goal.returns-clause-begins
returns-clause-begins g c sizes fresh =
    let opened = c.open-seen.ensures in
    history_begins sizes (g.L.Transport.place c.begin.new.self) (g.L.Transport.sight c.args.line.now)
    c.args.self.now.clerk c.open-seen.new.self _ fresh (opened.opened tt)
    (c.begin.ensures.place ∙ opened.place tt (g.L.Transport.sight c.args.line.now)) (opened.taken tt) opened.work
    opened.route
