use Rattle.mc_record.proofs.Recording.{run_recorded}
use Rattle.mc_record.proofs.recorder.RecorderScribeEvidence.runs.Goals as goal

pub returns-clause-log : goal.returns-clause-log
returns-clause-log c = λ keeps.
    let may = rw (← c.self.view_is) at (c.requires.may tt) in
    let adds = rw c.of-given.ensures at c.add.ensures.adds in
    rw (← c.self.view_is) (run_recorded c.self.inside.member c.hear_piece.new.member c.add.new.self
    c.args.seat c.args.piece.value c.args.answer.now c.args.token c.self.invariant c.hear_piece.ensures.sees
    c.hear_piece.ensures.lawful may adds)

pub hear_piece-requires-clause-step : goal.hear_piece-requires-clause-step
hear_piece-requires-clause-step c = rw (c.of-given.ensures, c.self.view_is) (c.requires.step tt)
