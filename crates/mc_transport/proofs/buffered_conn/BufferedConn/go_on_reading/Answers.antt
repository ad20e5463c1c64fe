-- What the seat did says how the line goes on.
use Rattle.mc_transport.specs.internal.Steps.{GoesOn}
use Rattle.mc_transport.proofs.Serving.{serves_handed, serves_read, serving_read, written}
use Rattle.mc_transport.proofs.buffered_conn.BufferedConn.go_on_reading.Goals as goal

pub returns-in-Continues-clause-says : goal.returns-in-Continues-clause-says
returns-in-Continues-clause-says g c received begin flow stopped none complete =
    let all = written received _ begin _ flow _ none stopped in
    let said = c.in-Continues.ensures.says received begin flow stopped.serves.conn_is all.serving
    stopped.serves.unbroken all.stops complete in
    rw c.note_taken.ensures.sight (serves_read received _ begin _ flow said.fed said.ended _
    (c.take_all.ensures received begin _ _
    (serving_read received _ begin _ _ flow _ _ c.go_on.new.self none stopped said)))

pub returns-in-Waits-clause-says : goal.returns-in-Waits-clause-says
returns-in-Waits-clause-says g c received begin flow stopped none complete =
    let all = written received _ begin _ flow _ none stopped in
    let said = c.in-Waits.ensures.says received begin flow stopped.serves.conn_is all.serving stopped.serves.unbroken
    all.stops complete in
    let goes : GoesOn received begin (g.L.Transport.sight c.go_on.new.line) flow c.go_on.new.conn
    c.go_on.new.self.unread =
    record { fed = flow.fed; ended = flow.ended; conn_is = said.conn_is; serving = said.serving } in
    serves_handed received _ begin _ flow _
    (record {
      serves = serving_read received _ begin _ _ flow _ _ c.go_on.new.self none stopped goes;
      stops = stopped.stops;
    })

pub returns-in-Ended-clause-says : goal.returns-in-Ended-clause-says
returns-in-Ended-clause-says g c received begin flow stopped none complete =
    let all = written received _ begin _ flow _ none stopped in
    let said = c.in-Ended.ensures.says received begin flow stopped.serves.conn_is all.serving stopped.serves.unbroken
    all.stops complete in
    rw c.ended.ensures (record { served = said; counted = stopped.serves.counted })

pub returns-in-Failed-clause-says : goal.returns-in-Failed-clause-says
returns-in-Failed-clause-says g c received begin flow stopped none complete =
    let all = written received _ begin _ flow _ none stopped in
    let said = c.in-Failed.ensures.says received begin flow stopped.serves.conn_is all.serving stopped.serves.unbroken
    all.stops complete in
    rw c.ended-in-Failed.ensures (record { served = said; counted = stopped.serves.counted })
