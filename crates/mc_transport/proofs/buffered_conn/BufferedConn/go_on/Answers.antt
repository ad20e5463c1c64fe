-- The replies are handed out, and once the line took them, more is read.
use Rattle.std.proofs.Common.{◌∙◌, arith}
use Rattle.mc_transport.specs.Later.{text_in}
use Rattle.mc_transport.specs.internal.Steps.{all_handed}
use Rattle.mc_transport.proofs.Later.{breaks_flushing, breaks_given_up}
use Rattle.mc_transport.proofs.Serving.{handed_out, serves_handed, stops_flushed, stops_in, waits_behind}
use Rattle.mc_transport.proofs.buffered_conn.BufferedConn.go_on.Goals as goal

pub returns-in-Err-clause-says : goal.returns-in-Err-clause-says
returns-in-Err-clause-says g c received begin flow stopped complete =
    let lent = stops_in received _ begin _ flow _ c.borrow_room.new.self c.borrow_room.ensures stopped in
    let serves = lent.serves in
    let off = c.in-Err.ensures.gone flow serves.conn_is in
    let served = breaks_given_up received begin _ _ _ flow _ off.now off.owed serves.grown serves.serving in
    rw c.ended.ensures (record { served = served; counted = serves.counted })

pub returns-in-Ok-true-clause-says : goal.returns-in-Ok-true-clause-says
returns-in-Ok-true-clause-says g c received begin flow stopped complete =
    let lent = stops_in received _ begin _ flow _ c.borrow_room.new.self c.borrow_room.ensures stopped in
    let out = c.in_default.ensures.ok flow lent.serves.conn_is lent.serves.unbroken in
    let handed = handed_out received _ begin _ flow _ _ _ (text_in c.hand.new.out) _ _ out lent in
    let flushed = stops_flushed received _ begin _ _ flow _ _ (text_in c.hand.new.out) c.flush.new.self handed
    (waits_behind flow _ _ _ (text_in c.hand.new.out) _ _ out) c.in-Ok-true.ensures.ok c.in-Ok-true.ensures.takes
    c.in-Ok-true.ensures.grows lent in
    let returned = stops_in received _ begin _ (all_handed flow) _ c.return_room.new.self c.return_room.ensures flushed
    in
    c.go_on_reading.ensures.says received begin flow returned
    (c.return_room.ensures ∙ c.in-Ok-true.ensures.out c.in-Ok-true.field-0-test) complete

pub returns-in-Ok-false-clause-says : goal.returns-in-Ok-false-clause-says
returns-in-Ok-false-clause-says g c received begin flow stopped complete =
    let lent = stops_in received _ begin _ flow _ c.borrow_room.new.self c.borrow_room.ensures stopped in
    let out = c.in_default.ensures.ok flow lent.serves.conn_is lent.serves.unbroken in
    let handed = handed_out received _ begin _ flow _ _ _ (text_in c.hand.new.out) _ _ out lent in
    serves_handed received _ begin _ flow _
    (stops_flushed received _ begin _ _ flow _ _ (text_in c.hand.new.out) c.flush.new.self handed
    (waits_behind flow _ _ _ (text_in c.hand.new.out) _ _ out) c.in-Ok-false.ensures.ok c.in-Ok-false.ensures.takes
    c.in-Ok-false.ensures.grows lent)

pub returns-in-Ok-false-2-clause-says : goal.returns-in-Ok-false-2-clause-says
returns-in-Ok-false-2-clause-says g c received begin flow stopped complete =
    let lent = stops_in received _ begin _ flow _ c.borrow_room.new.self c.borrow_room.ensures stopped in
    let out = c.in_default.ensures.ok flow lent.serves.conn_is lent.serves.unbroken in
    let handed = handed_out received _ begin _ flow _ _ _ (text_in c.hand.new.out) _ _ out lent in
    serves_handed received _ begin _ flow _
    (stops_flushed received _ begin _ _ flow _ _ (text_in c.hand.new.out) c.flush.new.self handed
    (waits_behind flow _ _ _ (text_in c.hand.new.out) _ _ out) c.in-Ok-false.ensures.ok c.in-Ok-false.ensures.takes
    c.in-Ok-false.ensures.grows lent)

pub returns-in-Err-flush-clause-says : goal.returns-in-Err-flush-clause-says
returns-in-Err-flush-clause-says g c received begin flow stopped complete =
    let lent = stops_in received _ begin _ flow _ c.borrow_room.new.self c.borrow_room.ensures stopped in
    let serves = lent.serves in
    let out = c.in_default.ensures.ok flow serves.conn_is serves.unbroken in
    let handed = handed_out received _ begin _ flow _ _ _ (text_in c.hand.new.out) _ _ out lent in
    let grown = serves.grown in
    let more = c.in-Err-flush.ensures.grows in
    let served = breaks_flushing received begin _ _ (text_in c.hand.new.out) (text_in c.flush.new.self) _ flow _
    (c.broken.ensures (all_handed flow) handed.0) c.in-Err-flush.ensures.some c.in-Err-flush.ensures.err
    (omega (arith, grown, more)) handed.1 in
    rw c.ended-in-Err-flush.ensures (record { served = served; counted = serves.counted })

pub flush-requires : goal.flush-requires
flush-requires g c =
    let on = c.requires.may in
    let lent = rw (← c.borrow_room.ensures) at on.may in
    let out = c.in_default.ensures.ok on.flow on.conn_is on.unbroken in
    record { may = rw (waits_behind on.flow _ _ _ (text_in c.hand.new.out) _ _ out) lent }
