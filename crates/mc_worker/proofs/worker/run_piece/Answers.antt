-- The step that the shard made is one from the state that the record leads to.
use Rattle.std.proofs.Common.{◌≡◌, ap}
use Rattle.mc_ring.specs.Reply.{Shown}
use Rattle.mc_worker.proofs.Steps.{steps_keep}
use Rattle.mc_worker.proofs.worker.run_piece.Goals as goal

pub runs-requires-clause-may : goal.runs-requires-clause-may
runs-requires-clause-may g c = λ keeps. rw c.of-sent.ensures (c.requires.may keeps)

pub runs-requires-clause-step : goal.runs-requires-clause-step
runs-requires-clause-step g c = λ keeps.
    let was = c.requires.ran keeps in
    let done = steps_keep _ _ _ _ _ c.run_in_place-answer.ensures.step was.0 was.2 in
    rw c.of-sent.ensures (record { before = was.0; after = done.0; ran = was.1; step = done.1 })

pub returns-clause-step : goal.returns-clause-step
returns-clause-step g c =
    let answer : c.new.result.answer ≡ c.run_in_place-answer.result = ap (λ (shows : Shown). shows.answer) c.new.ensures
    in
    rw answer c.run_in_place-answer.ensures.step
