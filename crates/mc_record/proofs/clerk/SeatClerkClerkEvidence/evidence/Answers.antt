use Rattle.std.proofs.Common.{refl}
use Rattle.mc_history.proofs.Writing.{by_bytes}
use Rattle.mc_record.proofs.Owing.{owed_may}
use Rattle.mc_record.proofs.clerk.SeatClerkClerkEvidence.evidence.Goals as goal

pub returns-clause-may : goal.returns-clause-may
returns-clause-may c = λ place begin now bytes was.
    let o = rw (← c.self.view_is) at (was tt) in
    rw (o.0, c.show.ensures.shown) (
      refl,
      refl,
      by_bytes _ _ begin now bytes _
          (owed_may c.self.inside.member begin now bytes c.self.invariant (record { opened = o.1; owed = o.2 })),
    )
