-- Each turn answers all commands that were taken, and continues.
use Rattle.std.proofs.Common.{sym, ap, subst}
use Rattle.mc_wire.specs.Sink.{Sight}
use Rattle.mc_sizes.specs.declared.sizes.Sizes.{Sizes}
use Rattle.mc_transport.specs.declared.buffered_conn.LineStep.TheVariants.{Did, Waits, Ended}
use Rattle.mc_record.specs.Opening.{IsOpening}
use Rattle.mc_server.specs.internal.Recording.{IsFresh}
use Rattle.mc_server.specs.internal.Turns.{Turns}
use Rattle.mc_server.proofs.Owing.{owes_all}
use Rattle.mc_server.proofs.Turning.{answers_stop, turn_ends, turn_said, turns_first, turns_go}
use Rattle.mc_server.proofs.serve.serve_one.Goals as goal
use Rattle.mc_server.proofs.serve.serve_one.Goals.{in-Did, in-Waits}

pub of-history-requires : goal.of-history-requires
of-history-requires g c =
    let is = c.requires.opening in
    record {
      opening =
          subst (λ (s : Sizes). IsOpening s c.args.opening.recorders.items c.args.opening.clerks.items
          c.args.opening.witness) (sym is.sizes_are) is;
      one = ap (λ (s : Sizes). s.seats) is.sizes_are;
    }

pub loop-init : goal.loop-init
loop-init g c =
    let made = c.in-Ok-Ok-Ok.ensures in
    let sizes : Sizes = record c.args.sizes { seats = 1 } in
    let place = g.L.Transport.place c.begin.new.line in
    let begin = g.L.Transport.sight c.args.line.now in
    let history = c.begin.new.self in (
      tt,
      tt,
      subst (λ (now : Sight). Turns sizes (g.K.Clock.may_answer c.args.clock.now) place begin now c.take_all.new.self
          c.in-Ok-Ok-Ok.shards.items history.clerk history.recorders.items) (sym c.begin.ensures.sight)
          (turns_first sizes (g.K.Clock.may_answer c.args.clock.now) place begin c.args.sizes.window
          c.in-Ok-Ok-Ok.buffered_conn c.take_all.new.self c.in-Ok-Ok-Ok.shards.items history.clerk
          history.recorders.items c.requires.lines.shards made.len made.empty
          (c.begin.ensures.begins sizes
          (subst (λ (s : Sizes). IsFresh s c.of-history.result.clerk c.of-history.result.recorders.items)
          c.requires.opening.sizes_are c.of-history.ensures.fresh))
          c.in-Ok-Ok-Ok.ensures' c.take_all.ensures),
    )

pub note_taken-requires : goal.note_taken-requires
note_taken-requires g c =
    let turns = c.loop.invariant.2 in
    record {
      sizes = record c.args.sizes { seats = 1 };
      place = g.L.Transport.place c.loop.line;
      begin = g.L.Transport.sight c.args.line.now;
      flow = turns.flow;
      log = turns.log;
      conn_is = turns.stopped.serves.conn_is;
      recorded = turns.recorded;
    }

pub answer-requires : goal.answer-requires
answer-requires g c =
    let turns = c.loop.invariant.2 in
    record {
      sizes = record c.args.sizes { seats = 1 };
      place = g.L.Transport.place c.loop.line;
      begin = g.L.Transport.sight c.args.line.now;
      flow = turns.flow;
      log = turns.log;
      conn_is = turns.stopped.serves.conn_is;
      answers = turns.answers;
      recorded =
          c.note_taken.ensures (record c.args.sizes { seats = 1 }) (g.L.Transport.place c.loop.line)
          (g.L.Transport.sight c.args.line.now) turns.flow turns.log turns.stopped.serves.conn_is turns.recorded;
    }

pub go_on-requires : goal.go_on-requires
go_on-requires g c =
    let turns = c.loop.invariant.2 in
    let noted = c.note_taken.ensures _ _ _ turns.flow turns.log turns.stopped.serves.conn_is turns.recorded in
    let answered = answers_stop _ _ _ _ _ _ c.answer.new.conn _ _ c.note_taken.new.self c.answer.new.history _ _
    c.answer.ensures turns noted in
    record {
      may = record {
        flow = answered.flow;
        conn_is = answered.stopped.serves.conn_is;
        unbroken = answered.stopped.serves.unbroken;
        may =
            c.evidence-seen.ensures.may _ (g.L.Transport.sight c.args.line.now) _ _
            (λ keeps. owes_all _ _ _ _ _ answered.flow _ _ answered.log _ _ answered.ran.answers answered.recorded
            answered.stopped);
      };
    }

pub loop-preserved : goal.loop-preserved
loop-preserved g c =
    let turns = c.loop.invariant.2 in
    let noted = c.note_taken.ensures _ _ _ turns.flow turns.log turns.stopped.serves.conn_is turns.recorded in
    let answered = answers_stop _ _ _ _ _ _ c.answer.new.conn _ _ c.note_taken.new.self c.answer.new.history _ _
    c.answer.ensures turns noted in (
      tt,
      tt,
      elim c.match-go_on.branch [
        | in-Did w ↦
            turns_go _ _ _ _ _ _ _ _ c.go_on.new.self _ _ _ _ answered c.go_on.ensures.place
            c.evidence-seen.ensures.same
            (turn_said _ _ _ _ _ _ _ c.go_on.new.self _ _ _ Did answered w.in-Did.ensures.says)
        | in-Waits w ↦
            turns_go _ _ _ _ _ _ _ _ c.go_on.new.self _ _ _ _ answered c.go_on.ensures.place
            c.evidence-seen.ensures.same
            (turn_said _ _ _ _ _ _ _ c.go_on.new.self _ _ _ Waits answered w.in-Waits.ensures.says)
      ],
    )

pub returns-in-Ended : goal.returns-in-Ended
returns-in-Ended g c =
    let turns = c.loop.invariant.2 in
    let noted = c.note_taken.ensures _ _ _ turns.flow turns.log turns.stopped.serves.conn_is turns.recorded in
    let answered = answers_stop _ _ _ _ _ _ c.answer.new.conn _ _ c.note_taken.new.self c.answer.new.history _ _
    c.answer.ensures turns noted in
    let served = c.in-Ended.served in
    record {
      explained = turn_ends _ _ _ _ _ _ _ c.go_on.new.self _ _ _ served.commands served.broke answered
          (turn_said _ _ _ _ _ _ _ c.go_on.new.self _ _ _ (Ended served) answered c.in-Ended.ensures.says);
      refused = tt;
      unplaced = tt;
    }
