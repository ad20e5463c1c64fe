-- The run is recorded, and the clerk has heard the reply.
use Rattle.std.proofs.Common.{◌≡◌, ◌∙◌, ℕ, List, Some, length, sym, ap, subst, refl, arith, rules, vec_len}
use Rattle.std.proofs.lemmas.Option.{slice_get_read}
use Rattle.mc_ring.specs.declared.request.Request.TheVariants as request
use Rattle.mc_ring.specs.Reply.{Shown, shown}
use Rattle.mc_ring.specs.Route.{Route}
use Rattle.mc_model.specs.Grows.{Lengthens}
use Rattle.mc_record.specs.Clerk.{answers_at}
use Rattle.mc_server.specs.internal.Recording.{entry_for, replies_on, route_to}
use Rattle.mc_server.proofs.Recording.{entry_logged, history_ran, recorder_there, reply_next, run_due, run_steps}
use Rattle.mc_server.proofs.line_history.LineHistory.note_run.Goals as goal

pub index_mut-recorder-requires : goal.index_mut-recorder-requires
index_mut-recorder-requires c =
    let below = recorder_there _ _ _ _ _ c.requires.may in
    let same : vec_len c.args.self.now.recorders ≡ length c.args.self.now.recorders.items = search rules in
    omega (arith, below, same)

pub runs-requires-clause-may : goal.runs-requires-clause-may
runs-requires-clause-may c = λ keeps.
    let can = c.requires.may in
    let recorders = c.args.self.now.recorders.items in
    let here = slice_get_read recorders (length recorders) c.args.shard c.index_mut-recorder.result.now refl
    (recorder_there _ _ _ _ _ can) c.index_mut-recorder.ensures.value in
    c.token-sent.ensures.shows c.args.shard _ _ (request.Piece c.args.piece.value)
    (λ kept. ((can.recorded.is.each c.args.shard _ here).route, run_due _ _ _ _ _ _ can here))

pub runs-requires-clause-step : goal.runs-requires-clause-step
runs-requires-clause-step c = λ keeps.
    let can = c.requires.may in
    let recorders = c.args.self.now.recorders.items in
    let here = slice_get_read recorders (length recorders) c.args.shard c.index_mut-recorder.result.now refl
    (recorder_there _ _ _ _ _ can) c.index_mut-recorder.ensures.value in
    run_steps _ _ _ _ _ _ can here

pub hear-requires : goal.hear-requires
hear-requires c = record {
  may = λ keeps.
      let can = c.requires.may in
      let recorders = c.args.self.now.recorders.items in
      let old = c.index_mut-recorder.result.now in
      let here = slice_get_read recorders (length recorders) c.args.shard old refl
      (recorder_there _ _ _ _ _ can) c.index_mut-recorder.ensures.value in
      let own = can.recorded.is.each c.args.shard old here in
      let entry = entry_for c.args.shard c.args.piece.value c.args.reply.now.answer in
      let more = entry_logged old c.runs.new.self c.args.shard c.args.piece.value c.args.reply.now.answer
      (ap (λ (r : Route). r.shard) own.route) (c.runs.ensures.log tt) in (
        replies_on can.log c.args.shard,
        c.token-given.ensures.shows 0 _ (replies_on can.log c.args.shard) (shown c.args.reply.now)
            (λ kept. (
              ap (λ (r : ℕ → Route). r c.args.shard) c.token-sent.ensures.route
                  ∙ (sym own.route ∙ ap (λ (r : ℕ → Route). r 0) (sym c.runs.ensures.route)),
              reply_next c.args.shard can.log _ _ entry _ can.mine refl own.ran more c.requires.reply,
            )),
      );
}

pub returns : goal.returns
returns c sizes place begin taken log mine whole =
    let recorders = c.args.self.now.recorders.items in
    let old = c.index_mut-recorder.result.now in
    let here = slice_get_read recorders (length recorders) c.args.shard old refl
    (recorder_there _ _ _ _ _ c.requires.may) c.index_mut-recorder.ensures.value in
    let own = whole.is.each c.args.shard old here in
    let entry = entry_for c.args.shard c.args.piece.value c.args.reply.now.answer in
    let more = entry_logged old c.runs.new.self c.args.shard c.args.piece.value c.args.reply.now.answer
    (ap (λ (r : Route). r.shard) own.route) (c.runs.ensures.log tt) in
    let sent = c.token-sent.ensures in
    let given = c.token-given.ensures in
    let hear = c.hear.ensures in
    let opened = sent.opened whole.is.opened in
    let may = given.shows 0 (route_to c.token-sent.new.self c.args.shard) (replies_on log c.args.shard)
    (shown c.args.reply.now)
    (λ kept. (
      ap (λ (r : ℕ → Route). r c.args.shard) sent.route
          ∙ (sym own.route ∙ ap (λ (r : ℕ → Route). r 0) (sym c.runs.ensures.route)),
      reply_next c.args.shard log _ _ entry _ mine refl own.ran more c.requires.reply,
    )) in
    history_ran sizes place begin taken log _ c.hear.new.self recorders c.args.shard entry old c.token-given.new.self
    refl here
    (ap (λ (r : ℕ → Route). r 0) given.route ∙ ap (λ (r : ℕ → Route). r 0) c.runs.ensures.route)
    (given.same ∙ more) (hear.opened tt opened) (hear.taken opened ∙ sent.taken)
    (λ s. hear.work s ∙ ap (λ w. w s) sent.work)
    (λ s. subst (λ (a : ℕ → List Shown). Lengthens (a s) (answers_at c.hear.new.self s)) sent.answers (hear.grows s))
    (hear.answers tt (replies_on log c.args.shard) may ∙ ap (λ (r : Shown). Some r) c.requires.reply)
    (hear.route ∙ sent.route) (hear.place tt opened ∙ sent.place) whole
