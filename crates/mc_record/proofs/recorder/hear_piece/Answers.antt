use Rattle.mc_record.proofs.Recording.{may_run}
use Rattle.mc_record.proofs.recorder.hear_piece.Goals as goal

pub returns-clause-own : goal.returns-clause-own
returns-clause-own c =
    (may_run c.args.member.now c.hear.new.self c.args.seat c.args.piece.now.value c.args.answer.now.value c.args.token
    c.requires.actor c.hear.ensures.sees c.hear.ensures.lawful c.requires.may c.requires.step).0

pub returns-clause-may : goal.returns-clause-may
returns-clause-may c =
    (may_run c.args.member.now c.hear.new.self c.args.seat c.args.piece.now.value c.args.answer.now.value c.args.token
    c.requires.actor c.hear.ensures.sees c.hear.ensures.lawful c.requires.may c.requires.step).1
