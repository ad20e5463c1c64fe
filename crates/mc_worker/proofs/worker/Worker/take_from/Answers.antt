-- Where the seat is live, what waits on its channel is taken: a piece is run, and with its End the seat is marked as
-- ended.
use Rattle.std.proofs.Common.{◌≡◌, ◌<◌, ◌∙◌, false, None, length, refl, sym, ap, subst}
use Rattle.std.specs.Prelude.{slice_set}
use Rattle.std.specs.Option.{option_map}
use Rattle.mc_ring.specs.Reply.{shown}
use Rattle.mc_store.specs.Shard.{held_of}
use Rattle.mc_worker.specs.declared.worker.Pending.{Pending}
use Rattle.mc_worker.specs.declared.worker.Turn.TheVariants.{Nothing, Ended}
use Rattle.mc_worker.specs.WorkerState.{WorkerState}
use Rattle.mc_worker.specs.Turns.{Turned}
use Rattle.mc_worker.proofs.Scribing.{live_received, turn_kept}
use Rattle.mc_worker.proofs.Taking.{finds_ended, finds_none, mark_is, run_kept, runs_piece, takes_end}
use Rattle.mc_worker.proofs.Turning.{turned_grows}
use Rattle.mc_worker.proofs.worker.Worker.take_from.Goals as goal

pub returns-then-not-index : goal.returns-then-not-index
returns-then-not-index g c =
    let old : WorkerState = record {
      shard = held_of c.self.inside.shard;
      ends = c.self.inside.ends;
      hand = option_map (λ (pending : Pending). (pending.seat, shown pending.reply)) c.self.inside.pending;
      live = c.self.inside.live.items;
    } in
    let free : old.hand ≡ None =
    ap (λ (worker_state : WorkerState). worker_state.hand) c.self.view_is ∙ c.requires.free in
    let ended = mark_is _ _ c.args.seat c.index.result.now _ c.self.view_is c.self.invariant.0.marked
    c.requires.seat c.index.ensures c.if-not-index.true in
    rw (← c.self.view_is) (finds_ended old c.args.seat free ended)

pub returns-in_default : goal.returns-in_default
returns-in_default g c =
    let old : WorkerState = record {
      shard = held_of c.self.inside.shard;
      ends = c.self.inside.ends;
      hand = option_map (λ (pending : Pending). (pending.seat, shown pending.reply)) c.self.inside.pending;
      live = c.self.inside.live.items;
    } in
    let free : old.hand ≡ None =
    ap (λ (worker_state : WorkerState). worker_state.hand) c.self.view_is ∙ c.requires.free in
    let live = mark_is _ _ c.args.seat c.index.result.now _ c.self.view_is c.self.invariant.0.marked
    c.requires.seat c.index.ensures c.if-not-index.false in
    rw (← c.self.view_is)
    (finds_none {T = g.row.T.Denot} old c.args.seat c.take_with.new.self free live c.in_default.ensures.channel)

pub returns-in_default-taken : goal.returns-in_default-taken
returns-in_default-taken g c =
    let old : WorkerState = record {
      shard = held_of c.self.inside.shard;
      ends = c.self.inside.ends;
      hand = option_map (λ (pending : Pending). (pending.seat, shown pending.reply)) c.self.inside.pending;
      live = c.self.inside.live.items;
    } in
    let free : old.hand ≡ None =
    ap (λ (worker_state : WorkerState). worker_state.hand) c.self.view_is ∙ c.requires.free in
    let live = mark_is _ _ c.args.seat c.index.result.now _ c.self.view_is c.self.invariant.0.marked
    c.requires.seat c.index.ensures c.if-not-index.false in
    rw (← c.self.view_is)
    (takes_end old c.args.seat _ c.take_with.new.self free live
    (rw c.in_default-taken.is at c.in-Some.ensures.channel))

pub returns : goal.returns
returns g c =
    let old : WorkerState = record {
      shard = held_of c.self.inside.shard;
      ends = c.self.inside.ends;
      hand = option_map (λ (pending : Pending). (pending.seat, shown pending.reply)) c.self.inside.pending;
      live = c.self.inside.live.items;
    } in
    let free : old.hand ≡ None =
    ap (λ (worker_state : WorkerState). worker_state.hand) c.self.view_is ∙ c.requires.free in
    let live = mark_is _ _ c.args.seat c.index.result.now _ c.self.view_is c.self.invariant.0.marked
    c.requires.seat c.index.ensures c.if-not-index.false in
    rw (← c.self.view_is)
    (runs_piece c.self.inside.shard c.run_piece-reply.new.shard c.self.inside.ends c.take_with.new.self
    old.hand c.self.inside.live.items c.args.seat c.in-Piece.piece c.run_piece-reply.result _ free live
    (rw c.in-Piece.is at c.in-Some.ensures.channel) c.run_piece-reply.ensures.step c.run_piece-reply.ensures.reply)

pub invariant_of-self : goal.invariant_of-self
invariant_of-self g c =
    let old : WorkerState = record {
      shard = held_of c.self.inside.shard;
      ends = c.self.inside.ends;
      hand = option_map (λ (pending : Pending). (pending.seat, shown pending.reply)) c.self.inside.pending;
      live = c.self.inside.live.items;
    } in
    let free : old.hand ≡ None =
    ap (λ (worker_state : WorkerState). worker_state.hand) c.self.view_is ∙ c.requires.free in
    let live = mark_is _ _ c.args.seat c.index.result.now _ c.self.view_is c.self.invariant.0.marked
    c.requires.seat c.index.ensures c.if-not-index.false in
    let within : c.args.seat < length old.ends.channels =
    subst (λ (worker_state : WorkerState). c.args.seat < length worker_state.ends.channels) (sym c.self.view_is)
    c.requires.seat in
    let new : WorkerState = record old { ends = c.take_with.new.self } in
    let turned : Turned old c.args.seat Nothing new =
    finds_none {T = g.row.T.Denot} old c.args.seat c.take_with.new.self free live c.in_default.ensures.channel in
    turn_kept _ _ _ _ _ _ _ _ old c.args.seat Nothing new (λ kept. kept) refl refl refl c.self.invariant.0 within
    turned (turned_grows old c.args.seat Nothing new c.self.invariant.0 within turned) c.self.invariant.1

pub invariant_of-self-in_default-taken : goal.invariant_of-self-in_default-taken
invariant_of-self-in_default-taken g c =
    let old : WorkerState = record {
      shard = held_of c.self.inside.shard;
      ends = c.self.inside.ends;
      hand = option_map (λ (pending : Pending). (pending.seat, shown pending.reply)) c.self.inside.pending;
      live = c.self.inside.live.items;
    } in
    let free : old.hand ≡ None =
    ap (λ (worker_state : WorkerState). worker_state.hand) c.self.view_is ∙ c.requires.free in
    let live = mark_is _ _ c.args.seat c.index.result.now _ c.self.view_is c.self.invariant.0.marked
    c.requires.seat c.index.ensures c.if-not-index.false in
    let within : c.args.seat < length old.ends.channels =
    subst (λ (worker_state : WorkerState). c.args.seat < length worker_state.ends.channels) (sym c.self.view_is)
    c.requires.seat in
    let new : WorkerState =
    record old { ends = c.take_with.new.self; live = slice_set c.self.inside.live.items c.args.seat false } in
    let turned : Turned old c.args.seat Ended new =
    takes_end old c.args.seat _ c.take_with.new.self free live
    (rw c.in_default-taken.is at c.in-Some.ensures.channel) in
    turn_kept _ _ _ _ _ _ _ _ old c.args.seat Ended new (λ kept. kept) refl refl refl c.self.invariant.0 within
    turned (turned_grows old c.args.seat Ended new c.self.invariant.0 within turned) c.self.invariant.1

pub run_piece-reply-requires-clause-may : goal.run_piece-reply-requires-clause-may
run_piece-reply-requires-clause-may g c = λ keeps.
    let was = c.self.invariant.1 keeps in
    let live = mark_is _ _ c.args.seat c.index.result.now _ c.self.view_is c.self.invariant.0.marked
    c.requires.seat c.index.ensures c.if-not-index.false in
    let channel = c.in-Some.ensures.channel in
    let may = c.in-Some.ensures.may channel.before channel.here in
    rw (
      ← c.in-Piece.is,
      ← was.routes.each c.args.seat channel.before channel.here,
      ← live_received _ _ _ c.args.seat channel.before was.ran live channel.here,
    ) may

pub run_piece-reply-requires-clause-ran : goal.run_piece-reply-requires-clause-ran
run_piece-reply-requires-clause-ran g c = λ keeps.
    let was = c.self.invariant.1 keeps in (was.ran.state, was.ran.ran, was.ran.kept)

pub invariant_of-self-2 : goal.invariant_of-self-2
invariant_of-self-2 g c =
    let old : WorkerState = record {
      shard = held_of c.self.inside.shard;
      ends = c.self.inside.ends;
      hand = option_map (λ (pending : Pending). (pending.seat, shown pending.reply)) c.self.inside.pending;
      live = c.self.inside.live.items;
    } in
    let free : old.hand ≡ None =
    ap (λ (worker_state : WorkerState). worker_state.hand) c.self.view_is ∙ c.requires.free in
    let live = mark_is _ _ c.args.seat c.index.result.now _ c.self.view_is c.self.invariant.0.marked
    c.requires.seat c.index.ensures c.if-not-index.false in
    let within : c.args.seat < length old.ends.channels =
    subst (λ (worker_state : WorkerState). c.args.seat < length worker_state.ends.channels) (sym c.self.view_is)
    c.requires.seat in
    run_kept c.self.inside.shard c.run_piece-reply.new.shard c.self.inside.ends c.take_with.new.self
    old.hand c.self.inside.live.items c.args.seat c.in-Piece.piece c.run_piece-reply.result _ _ _ _ _ _ _ _ _ free live
    (rw c.in-Piece.is at c.in-Some.ensures.channel) c.run_piece-reply.ensures.step c.run_piece-reply.ensures.reply
    c.run_piece-reply.ensures.keeps c.run_piece-reply.ensures.route c.run_piece-reply.ensures.begin
    c.run_piece-reply.ensures.log within c.self.invariant.0 c.self.invariant.1
