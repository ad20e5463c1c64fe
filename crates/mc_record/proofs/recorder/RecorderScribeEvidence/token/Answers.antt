use Rattle.mc_record.proofs.Recording.{gives}
use Rattle.mc_record.proofs.recorder.RecorderScribeEvidence.token.Goals as goal

pub returns-clause-shows : goal.returns-clause-shows
returns-clause-shows c = λ seat route before reply was.
    let w = rw (← c.self.view_is) at (was tt) in
    rw c.show.ensures.shown (gives c.self.inside.member c.self.invariant seat route before reply w.0 w.1)
