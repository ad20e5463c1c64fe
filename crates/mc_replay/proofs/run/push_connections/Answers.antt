-- Each connection has its line, and no other has.
use Rattle.std.proofs.Common.{Some, ap, sym, ◌∙◌}
use Rattle.std.proofs.lemmas.Option.{slice_get-get_or}
use Rattle.mc_sim.specs.declared.sim.Connection.{Connection}
use Rattle.mc_replay.proofs.Telling.{connection_lines_more, link_at}
use Rattle.mc_replay.proofs.run.push_connections.Goals as goal

pub loop-number-preserved : goal.loop-number-preserved
loop-number-preserved c = λ sizes w stands.
    let seats = c.connections-connections.ensures.seats sizes w stands in
    let here = slice_get-get_or c.connections-connections.result.now c.loop-number.number
    c.index-connections-number.result c.loop-number-test.true
    ∙ ap (λ (one : Connection). Some one) (sym c.index-connections-number.is) in
    let one = link_at (λ (one : Connection). one.seat) c.connections-connections.result.now w.links c.loop-number.number
    c.index-connections-number.result seats here in
    rw (c.in_ok-push_handed.ensures sizes w one.0 stands one.1 one.2)
    (connection_lines_more sizes w c.loop-number.number one.0 c.loop-number.text.items _ one.1
    (c.loop-number.invariant sizes w stands))
