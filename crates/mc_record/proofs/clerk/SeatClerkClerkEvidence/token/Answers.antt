use Rattle.mc_record.proofs.Clerking.{sends}
use Rattle.mc_record.proofs.clerk.SeatClerkClerkEvidence.token.Goals as goal

pub returns-clause-shows : goal.returns-clause-shows
returns-clause-shows c = λ shard route before request was.
    let w = rw (← c.self.view_is) at (was tt) in
    rw c.show.ensures.shown (sends c.self.inside.member c.self.invariant shard route before request w.0 w.1)
