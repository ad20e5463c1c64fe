-- Where the seat is live, what waits on its channel is taken: a piece is run and its reply sent, and with its End the
-- seat is marked as ended.
use Rattle.std.proofs.Common.{◌≡◌, ◌<◌, ◌∙◌, false, Some, None, refl, sym, ap, subst, length}
use Rattle.std.specs.Prelude.{slice_set}
use Rattle.std.specs.Option.{option_map}
use Rattle.mc_ring.specs.Reply.{shown}
use Rattle.mc_store.specs.Shard.{held_of}
use Rattle.mc_worker.specs.declared.worker.Pending.{Pending}
use Rattle.mc_worker.specs.declared.worker.Turn.TheVariants.{Gave, Blocked, Nothing, Ended, Ran}
use Rattle.mc_worker.specs.WorkerState.{WorkerState}
use Rattle.mc_worker.specs.Turns.{Turned}
use Rattle.mc_worker.proofs.Scribing.{held_next, live_received, turn_kept}
use Rattle.mc_worker.proofs.Taking.{after_run, finds_ended, finds_none, mark_is, run_kept, runs_piece, takes_end}
use Rattle.mc_worker.proofs.Turning.{turned_grows, turned_keeps}
use Rattle.mc_worker.proofs.WorkerStates.{full_channel}
use Rattle.mc_worker.proofs.worker.Worker.run_next.Goals as goal

pub returns-then-not-index : goal.returns-then-not-index
returns-then-not-index g c =
    let old : WorkerState = record {
      shard = held_of c.self.inside.shard;
      ends = c.self.inside.ends;
      hand = option_map (λ (pending : Pending). (pending.seat, shown pending.reply)) c.self.inside.pending;
      live = c.self.inside.live.items;
    } in
    let free : old.hand ≡ None =
    ap (λ (worker_state : WorkerState). worker_state.hand) c.self.view_is ∙ c.requires.free in
    let ended = mark_is _ _ c.args.seat c.index.result.now _ c.self.view_is c.self.invariant.0.marked
    c.requires.seat c.index.ensures c.if-not-index.true in
    rw (← c.self.view_is) (finds_ended old c.args.seat free ended)

pub returns-in_default : goal.returns-in_default
returns-in_default g c =
    let old : WorkerState = record {
      shard = held_of c.self.inside.shard;
      ends = c.self.inside.ends;
      hand = option_map (λ (pending : Pending). (pending.seat, shown pending.reply)) c.self.inside.pending;
      live = c.self.inside.live.items;
    } in
    let free : old.hand ≡ None =
    ap (λ (worker_state : WorkerState). worker_state.hand) c.self.view_is ∙ c.requires.free in
    let live = mark_is _ _ c.args.seat c.index.result.now _ c.self.view_is c.self.invariant.0.marked
    c.requires.seat c.index.ensures c.if-not-index.false in
    rw (← c.self.view_is)
    (finds_none {T = g.row.T.Denot} old c.args.seat c.take_with.new.self free live c.in_default.ensures.channel)

pub returns-in_default-request : goal.returns-in_default-request
returns-in_default-request g c =
    let old : WorkerState = record {
      shard = held_of c.self.inside.shard;
      ends = c.self.inside.ends;
      hand = option_map (λ (pending : Pending). (pending.seat, shown pending.reply)) c.self.inside.pending;
      live = c.self.inside.live.items;
    } in
    let free : old.hand ≡ None =
    ap (λ (worker_state : WorkerState). worker_state.hand) c.self.view_is ∙ c.requires.free in
    let live = mark_is _ _ c.args.seat c.index.result.now _ c.self.view_is c.self.invariant.0.marked
    c.requires.seat c.index.ensures c.if-not-index.false in
    rw (← c.self.view_is)
    (takes_end old c.args.seat _ c.take_with.new.self free live
    (rw c.in_default-request.is at c.in-Some.ensures.channel))

pub invariant_of-self : goal.invariant_of-self
invariant_of-self g c =
    let old : WorkerState = record {
      shard = held_of c.self.inside.shard;
      ends = c.self.inside.ends;
      hand = option_map (λ (pending : Pending). (pending.seat, shown pending.reply)) c.self.inside.pending;
      live = c.self.inside.live.items;
    } in
    let free : old.hand ≡ None =
    ap (λ (worker_state : WorkerState). worker_state.hand) c.self.view_is ∙ c.requires.free in
    let live = mark_is _ _ c.args.seat c.index.result.now _ c.self.view_is c.self.invariant.0.marked
    c.requires.seat c.index.ensures c.if-not-index.false in
    let within : c.args.seat < length old.ends.channels =
    subst (λ (worker_state : WorkerState). c.args.seat < length worker_state.ends.channels) (sym c.self.view_is)
    c.requires.seat in
    let new : WorkerState = record old { ends = c.take_with.new.self } in
    let turned : Turned old c.args.seat Nothing new =
    finds_none {T = g.row.T.Denot} old c.args.seat c.take_with.new.self free live c.in_default.ensures.channel in
    turn_kept _ _ _ _ _ _ _ _ old c.args.seat Nothing new (λ kept. kept) refl refl refl c.self.invariant.0 within
    turned (turned_grows old c.args.seat Nothing new c.self.invariant.0 within turned) c.self.invariant.1

pub invariant_of-self-in_default-request : goal.invariant_of-self-in_default-request
invariant_of-self-in_default-request g c =
    let old : WorkerState = record {
      shard = held_of c.self.inside.shard;
      ends = c.self.inside.ends;
      hand = option_map (λ (pending : Pending). (pending.seat, shown pending.reply)) c.self.inside.pending;
      live = c.self.inside.live.items;
    } in
    let free : old.hand ≡ None =
    ap (λ (worker_state : WorkerState). worker_state.hand) c.self.view_is ∙ c.requires.free in
    let live = mark_is _ _ c.args.seat c.index.result.now _ c.self.view_is c.self.invariant.0.marked
    c.requires.seat c.index.ensures c.if-not-index.false in
    let within : c.args.seat < length old.ends.channels =
    subst (λ (worker_state : WorkerState). c.args.seat < length worker_state.ends.channels) (sym c.self.view_is)
    c.requires.seat in
    let new : WorkerState =
    record old { ends = c.take_with.new.self; live = slice_set c.self.inside.live.items c.args.seat false } in
    let turned : Turned old c.args.seat Ended new =
    takes_end old c.args.seat _ c.take_with.new.self free live
    (rw c.in_default-request.is at c.in-Some.ensures.channel) in
    turn_kept _ _ _ _ _ _ _ _ old c.args.seat Ended new (λ kept. kept) refl refl refl c.self.invariant.0 within
    turned (turned_grows old c.args.seat Ended new c.self.invariant.0 within turned) c.self.invariant.1

pub run_piece-reply-requires-clause-may : goal.run_piece-reply-requires-clause-may
run_piece-reply-requires-clause-may g c = λ keeps.
    let was = c.self.invariant.1 keeps in
    let live = mark_is _ _ c.args.seat c.index.result.now _ c.self.view_is c.self.invariant.0.marked
    c.requires.seat c.index.ensures c.if-not-index.false in
    let channel = c.in-Some.ensures.channel in
    let may = c.in-Some.ensures.may channel.before channel.here in
    rw (
      ← c.in-Piece.is,
      ← was.routes.each c.args.seat channel.before channel.here,
      ← live_received _ _ _ c.args.seat channel.before was.ran live channel.here,
    ) may

pub run_piece-reply-requires-clause-ran : goal.run_piece-reply-requires-clause-ran
run_piece-reply-requires-clause-ran g c = λ keeps.
    let was = c.self.invariant.1 keeps in (was.ran.state, was.ran.ran, was.ran.kept)

pub give_with-requires-clause-seat : goal.give_with-requires-clause-seat
give_with-requires-clause-seat g c =
    let old : WorkerState = record {
      shard = held_of c.self.inside.shard;
      ends = c.self.inside.ends;
      hand = option_map (λ (pending : Pending). (pending.seat, shown pending.reply)) c.self.inside.pending;
      live = c.self.inside.live.items;
    } in
    let within : c.args.seat < length old.ends.channels =
    subst (λ (worker_state : WorkerState). c.args.seat < length worker_state.ends.channels) (sym c.self.view_is)
    c.requires.seat in
    rw c.take_with.ensures.same.count within

pub give_with-requires-clause-may : goal.give_with-requires-clause-may
give_with-requires-clause-may g c =
    let old : WorkerState = record {
      shard = held_of c.self.inside.shard;
      ends = c.self.inside.ends;
      hand = option_map (λ (pending : Pending). (pending.seat, shown pending.reply)) c.self.inside.pending;
      live = c.self.inside.live.items;
    } in
    let free : old.hand ≡ None =
    ap (λ (worker_state : WorkerState). worker_state.hand) c.self.view_is ∙ c.requires.free in
    let live = mark_is _ _ c.args.seat c.index.result.now _ c.self.view_is c.self.invariant.0.marked
    c.requires.seat c.index.ensures c.if-not-index.false in
    let within : c.args.seat < length old.ends.channels =
    subst (λ (worker_state : WorkerState). c.args.seat < length worker_state.ends.channels) (sym c.self.view_is)
    c.requires.seat in
    let ran = runs_piece c.self.inside.shard c.run_piece-reply.new.shard c.self.inside.ends c.take_with.new.self
    old.hand c.self.inside.live.items c.args.seat c.in-Piece.piece c.run_piece-reply.result _ free live
    (rw c.in-Piece.is at c.in-Some.ensures.channel) c.run_piece-reply.ensures.step c.run_piece-reply.ensures.reply in
    let kept = run_kept c.self.inside.shard c.run_piece-reply.new.shard c.self.inside.ends c.take_with.new.self
    old.hand c.self.inside.live.items c.args.seat c.in-Piece.piece c.run_piece-reply.result _ _ _ _ _ _ _ _ _ free live
    (rw c.in-Piece.is at c.in-Some.ensures.channel) c.run_piece-reply.ensures.step c.run_piece-reply.ensures.reply
    c.run_piece-reply.ensures.keeps c.run_piece-reply.ensures.route c.run_piece-reply.ensures.begin
    c.run_piece-reply.ensures.log within c.self.invariant.0 c.self.invariant.1 in
    λ end here.
    c.token-token.ensures.shows c.args.seat end.past.channel.route end.past.sent (shown c.run_piece-reply.result)
    (λ keeps.
    let was = kept.1 keeps in (
      was.routes.each c.args.seat end here,
      held_next _ _ _ c.args.seat (shown c.run_piece-reply.result) end was.ran refl here,
    ))

pub returns-in-Ok : goal.returns-in-Ok
returns-in-Ok g c =
    let old : WorkerState = record {
      shard = held_of c.self.inside.shard;
      ends = c.self.inside.ends;
      hand = option_map (λ (pending : Pending). (pending.seat, shown pending.reply)) c.self.inside.pending;
      live = c.self.inside.live.items;
    } in
    let free : old.hand ≡ None =
    ap (λ (worker_state : WorkerState). worker_state.hand) c.self.view_is ∙ c.requires.free in
    let live = mark_is _ _ c.args.seat c.index.result.now _ c.self.view_is c.self.invariant.0.marked
    c.requires.seat c.index.ensures c.if-not-index.false in
    let within : c.args.seat < length old.ends.channels =
    subst (λ (worker_state : WorkerState). c.args.seat < length worker_state.ends.channels) (sym c.self.view_is)
    c.requires.seat in
    let ran = runs_piece c.self.inside.shard c.run_piece-reply.new.shard c.self.inside.ends c.take_with.new.self
    old.hand c.self.inside.live.items c.args.seat c.in-Piece.piece c.run_piece-reply.result _ free live
    (rw c.in-Piece.is at c.in-Some.ensures.channel) c.run_piece-reply.ensures.step c.run_piece-reply.ensures.reply in
    let between : WorkerState =
    after_run c.self.inside.shard c.run_piece-reply.new.shard c.self.inside.ends c.take_with.new.self
    old.hand c.self.inside.live.items c.args.seat c.in-Piece.piece c.run_piece-reply.result in
    let new : WorkerState = record between { ends = c.give_with.new.self; hand = old.hand } in
    let turned : Turned between c.args.seat Gave new = record {
      seat = c.args.seat;
      reply = c.run_piece-reply.result;
      held = refl;
      channel = c.in-Ok.ensures.channel;
      rest = rw free refl;
    } in
    rw (← c.self.view_is) (record {
      ticket = c.in-Piece.piece.ticket;
      part = c.in-Piece.piece.part;
      moment = c.in-Piece.piece.moment;
      between = between;
      ran = ran;
      turned = turned;
    })

pub returns : goal.returns
returns g c =
    let old : WorkerState = record {
      shard = held_of c.self.inside.shard;
      ends = c.self.inside.ends;
      hand = option_map (λ (pending : Pending). (pending.seat, shown pending.reply)) c.self.inside.pending;
      live = c.self.inside.live.items;
    } in
    let free : old.hand ≡ None =
    ap (λ (worker_state : WorkerState). worker_state.hand) c.self.view_is ∙ c.requires.free in
    let live = mark_is _ _ c.args.seat c.index.result.now _ c.self.view_is c.self.invariant.0.marked
    c.requires.seat c.index.ensures c.if-not-index.false in
    let within : c.args.seat < length old.ends.channels =
    subst (λ (worker_state : WorkerState). c.args.seat < length worker_state.ends.channels) (sym c.self.view_is)
    c.requires.seat in
    let ran = runs_piece c.self.inside.shard c.run_piece-reply.new.shard c.self.inside.ends c.take_with.new.self
    old.hand c.self.inside.live.items c.args.seat c.in-Piece.piece c.run_piece-reply.result _ free live
    (rw c.in-Piece.is at c.in-Some.ensures.channel) c.run_piece-reply.ensures.step c.run_piece-reply.ensures.reply in
    let between : WorkerState =
    after_run c.self.inside.shard c.run_piece-reply.new.shard c.self.inside.ends c.take_with.new.self
    old.hand c.self.inside.live.items c.args.seat c.in-Piece.piece c.run_piece-reply.result in
    let new : WorkerState =
    record between { ends = c.give_with.new.self; hand = Some (c.args.seat, shown c.in-Err.reply) } in
    let turned : Turned between c.args.seat Blocked new = record {
      seat = c.args.seat;
      reply = shown c.run_piece-reply.result;
      held = refl;
      channel =
          full_channel c.run_piece-reply.result c.in-Err.reply c.args.seat c.take_with.new.self c.give_with.new.self
          c.in-Err.ensures.channel;
      rest = rw c.in-Err.ensures.channel.said.back.0 refl;
    } in
    rw (← c.self.view_is) (record {
      ticket = c.in-Piece.piece.ticket;
      part = c.in-Piece.piece.part;
      moment = c.in-Piece.piece.moment;
      between = between;
      ran = ran;
      turned = turned;
    })

pub invariant_of-self-in-Ok : goal.invariant_of-self-in-Ok
invariant_of-self-in-Ok g c =
    let old : WorkerState = record {
      shard = held_of c.self.inside.shard;
      ends = c.self.inside.ends;
      hand = option_map (λ (pending : Pending). (pending.seat, shown pending.reply)) c.self.inside.pending;
      live = c.self.inside.live.items;
    } in
    let free : old.hand ≡ None =
    ap (λ (worker_state : WorkerState). worker_state.hand) c.self.view_is ∙ c.requires.free in
    let live = mark_is _ _ c.args.seat c.index.result.now _ c.self.view_is c.self.invariant.0.marked
    c.requires.seat c.index.ensures c.if-not-index.false in
    let within : c.args.seat < length old.ends.channels =
    subst (λ (worker_state : WorkerState). c.args.seat < length worker_state.ends.channels) (sym c.self.view_is)
    c.requires.seat in
    let ran = runs_piece c.self.inside.shard c.run_piece-reply.new.shard c.self.inside.ends c.take_with.new.self
    old.hand c.self.inside.live.items c.args.seat c.in-Piece.piece c.run_piece-reply.result _ free live
    (rw c.in-Piece.is at c.in-Some.ensures.channel) c.run_piece-reply.ensures.step c.run_piece-reply.ensures.reply in
    let kept = run_kept c.self.inside.shard c.run_piece-reply.new.shard c.self.inside.ends c.take_with.new.self
    old.hand c.self.inside.live.items c.args.seat c.in-Piece.piece c.run_piece-reply.result _ _ _ _ _ _ _ _ _ free live
    (rw c.in-Piece.is at c.in-Some.ensures.channel) c.run_piece-reply.ensures.step c.run_piece-reply.ensures.reply
    c.run_piece-reply.ensures.keeps c.run_piece-reply.ensures.route c.run_piece-reply.ensures.begin
    c.run_piece-reply.ensures.log within c.self.invariant.0 c.self.invariant.1 in
    let between : WorkerState =
    after_run c.self.inside.shard c.run_piece-reply.new.shard c.self.inside.ends c.take_with.new.self
    old.hand c.self.inside.live.items c.args.seat c.in-Piece.piece c.run_piece-reply.result in
    let new : WorkerState = record between { ends = c.give_with.new.self; hand = old.hand } in
    let turned : Turned between c.args.seat Gave new = record {
      seat = c.args.seat;
      reply = c.run_piece-reply.result;
      held = refl;
      channel = c.in-Ok.ensures.channel;
      rest = rw free refl;
    } in
    let same = turned_keeps old c.args.seat
    (Ran c.in-Piece.piece.ticket c.in-Piece.piece.part c.in-Piece.piece.moment) between c.self.invariant.0 within ran in
    let still : c.args.seat < length between.ends.channels = rw same.count within in
    let token = c.token-token.ensures in
    turn_kept _ _ _ _ _ _ _ _ between c.args.seat Gave new token.keeps token.route token.begin token.same kept.0
    still turned (turned_grows between c.args.seat Gave new kept.0 still turned) kept.1

pub invariant_of-self-in-Err : goal.invariant_of-self-in-Err
invariant_of-self-in-Err g c =
    let old : WorkerState = record {
      shard = held_of c.self.inside.shard;
      ends = c.self.inside.ends;
      hand = option_map (λ (pending : Pending). (pending.seat, shown pending.reply)) c.self.inside.pending;
      live = c.self.inside.live.items;
    } in
    let free : old.hand ≡ None =
    ap (λ (worker_state : WorkerState). worker_state.hand) c.self.view_is ∙ c.requires.free in
    let live = mark_is _ _ c.args.seat c.index.result.now _ c.self.view_is c.self.invariant.0.marked
    c.requires.seat c.index.ensures c.if-not-index.false in
    let within : c.args.seat < length old.ends.channels =
    subst (λ (worker_state : WorkerState). c.args.seat < length worker_state.ends.channels) (sym c.self.view_is)
    c.requires.seat in
    let ran = runs_piece c.self.inside.shard c.run_piece-reply.new.shard c.self.inside.ends c.take_with.new.self
    old.hand c.self.inside.live.items c.args.seat c.in-Piece.piece c.run_piece-reply.result _ free live
    (rw c.in-Piece.is at c.in-Some.ensures.channel) c.run_piece-reply.ensures.step c.run_piece-reply.ensures.reply in
    let kept = run_kept c.self.inside.shard c.run_piece-reply.new.shard c.self.inside.ends c.take_with.new.self
    old.hand c.self.inside.live.items c.args.seat c.in-Piece.piece c.run_piece-reply.result _ _ _ _ _ _ _ _ _ free live
    (rw c.in-Piece.is at c.in-Some.ensures.channel) c.run_piece-reply.ensures.step c.run_piece-reply.ensures.reply
    c.run_piece-reply.ensures.keeps c.run_piece-reply.ensures.route c.run_piece-reply.ensures.begin
    c.run_piece-reply.ensures.log within c.self.invariant.0 c.self.invariant.1 in
    let between : WorkerState =
    after_run c.self.inside.shard c.run_piece-reply.new.shard c.self.inside.ends c.take_with.new.self
    old.hand c.self.inside.live.items c.args.seat c.in-Piece.piece c.run_piece-reply.result in
    let new : WorkerState =
    record between { ends = c.give_with.new.self; hand = Some (c.args.seat, shown c.in-Err.reply) } in
    let turned : Turned between c.args.seat Blocked new = record {
      seat = c.args.seat;
      reply = shown c.run_piece-reply.result;
      held = refl;
      channel =
          full_channel c.run_piece-reply.result c.in-Err.reply c.args.seat c.take_with.new.self c.give_with.new.self
          c.in-Err.ensures.channel;
      rest = rw c.in-Err.ensures.channel.said.back.0 refl;
    } in
    let same = turned_keeps old c.args.seat
    (Ran c.in-Piece.piece.ticket c.in-Piece.piece.part c.in-Piece.piece.moment) between c.self.invariant.0 within ran in
    let still : c.args.seat < length between.ends.channels = rw same.count within in
    let token = c.token-token.ensures in
    turn_kept _ _ _ _ _ _ _ _ between c.args.seat Blocked new token.keeps token.route token.begin token.same kept.0
    still turned (turned_grows between c.args.seat Blocked new kept.0 still turned) kept.1
