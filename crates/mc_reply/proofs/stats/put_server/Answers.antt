use Rattle.std.proofs.Common.{◌++◌}
use Rattle.std.specs.Prelude.{codes}
use Rattle.mc_wire.proofs.Sinks.{breaks}
use Rattle.mc_reply.specs.Text.{connections_text, release, stat_text, times_text}
use Rattle.mc_reply.proofs.Texts.{first_breaks, part_breaks, server_parts, writes_rest, wrote_first, wrote_more}
use Rattle.mc_reply.proofs.stats.put_server.Goals as goal

pub returns-in_err-put_process : goal.returns-in_err-put_process
returns-in_err-put_process g c =
    let server = c.args.server.now in
    breaks _ c.from_residual.result _ _ c.from_residual.ensures.0
    (first_breaks _ (stat_text (codes "version") release ++ (times_text server ++ connections_text server))
    (server_parts server) c.in_err-put_process.ensures)

pub returns-in_err-put_stat : goal.returns-in_err-put_stat
returns-in_err-put_stat g c =
    let server = c.args.server.now in
    breaks _ c.from_residual-in_err-put_stat.result _ _ c.from_residual-in_err-put_stat.ensures.0
    (part_breaks _ (times_text server ++ connections_text server)
    (wrote_first _ (server_parts server) c.in_ok-put_process.ensures) c.in_err-put_stat.ensures)

pub returns-in_err-put_times : goal.returns-in_err-put_times
returns-in_err-put_times g c =
    let server = c.args.server.now in
    breaks _ c.from_residual-in_err-put_times.result _ _ c.from_residual-in_err-put_times.ensures.0
    (part_breaks _ (connections_text server)
    (wrote_more _ (times_text server ++ connections_text server)
    (wrote_first _ (server_parts server) c.in_ok-put_process.ensures) c.in_ok-put_stat.ensures)
    c.in_err-put_times.ensures)

pub returns : goal.returns
returns g c =
    let server = c.args.server.now in
    writes_rest _ c.put_connections.result
    (wrote_more _ (connections_text server)
    (wrote_more _ (times_text server ++ connections_text server)
    (wrote_first _ (server_parts server) c.in_ok-put_process.ensures) c.in_ok-put_stat.ensures)
    c.in_ok-put_times.ensures)
    c.put_connections.ensures
