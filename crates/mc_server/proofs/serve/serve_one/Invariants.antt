-- What holds between the turns.
use Rattle.mc_server.specs.internal.Turns.{Turns}
use Rattle.mc_server.proofs.serve.serve_one.Given as goal

abbrev pub invariant-loop : goal.invariant-loop
invariant-loop g l =
    (goal.iterator-loop g).can_next l.iterator' × (goal.iterator-loop g).is_finite l.iterator'
    × Turns (record l.fn.sizes { seats = 1 }) (g.K.Clock.may_answer l.fn.clock) (g.L.Transport.place l.line)
    (g.L.Transport.sight l.fn.line) (g.L.Transport.sight l.line) l.buffered_conn l.shards.items l.history.clerk
    l.history.recorders.items
