-- Why no further command was taken says whether the line is read, has ended, or may be taken from again.
use Rattle.mc_conn.specs.declared.conn.Taken.TheVariants as took
use Rattle.mc_transport.specs.internal.Steps.{StopsAt, all_handed}
use Rattle.mc_transport.proofs.Turns.{ends}
use Rattle.mc_transport.proofs.read_side.ReadSide.go_on.Goals as goal

pub returns-in-NeedMore-clause-says : goal.returns-in-NeedMore-clause-says
returns-in-NeedMore-clause-says g c received begin flow is serving unbroken stops complete =
    let more : StopsAt took.NeedMore (all_handed flow) = rw c.in-NeedMore.is at stops in
    c.read_on.ensures.says received begin flow is serving more.0 more.1 complete

pub returns-in-Closed-clause-says : goal.returns-in-Closed-clause-says
returns-in-Closed-clause-says g c received begin flow is serving unbroken stops complete =
    let over : StopsAt took.Closed (all_handed flow) = rw c.in-Closed.is at stops in
    ends received begin _ c.args.self.now.unread flow _ is unbroken over serving

pub returns-in-Opened-clause-says : goal.returns-in-Opened-clause-says
returns-in-Opened-clause-says g c received begin flow is serving unbroken stops complete =
    record { fed = flow.fed; ended = flow.ended; conn_is = is; serving = serving }
