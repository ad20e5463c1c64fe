use Rattle.mc_conn.specs.Conn.{IsConn}
use Rattle.mc_conn.proofs.Calls.{amid_skipped, unread_behind}
use Rattle.mc_conn.proofs.conn.Conn.held.Goals as goal

pub returns-clause-skipping : goal.returns-clause-skipping
unfolding IsConn
returns-clause-skipping c flow h skips =
    c.held.ensures.skipped flow.rules flow.fed flow.ended h.given h.read (amid_skipped c.args.self.now flow h skips)

pub returns-clause-unread : goal.returns-clause-unread
unfolding IsConn
returns-clause-unread c flow h unread leaves =
    let behind = unread_behind c.args.self.now flow h unread leaves in
    c.held.ensures.unread flow.rules flow.fed flow.ended h.given h.read unread behind.1 behind.0

pub returns-clause-line : goal.returns-clause-line
unfolding IsConn
returns-clause-line c flow h unread leaves none =
    let behind = unread_behind c.args.self.now flow h unread leaves in
    c.held.ensures.line flow.rules flow.fed flow.ended h.given h.read unread behind.1 behind.0 none
