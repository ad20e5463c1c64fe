-- What a worker takes of a live seat, and the piece that it runs.
use Rattle.std.proofs.Common.{◌≡◌, ◌<◌, ◌∙◌, ℕ, Bool, true, false, Option, Some, None, List, [], ◌∷◌, ◌++◌, length}
use Rattle.std.proofs.Common.{refl, ap, arith, get_or, slice_set}
use Rattle.std.specs.List.{slice_get}
use Rattle.std.proofs.lemmas.Option.{slice_get_read}
use Rattle.mc_item.specs.Kind.{kind_of}
use Rattle.mc_split.specs.declared.plan.Piece.{Piece}
use Rattle.mc_ring.specs.declared.reply.Reply.{Reply}
use Rattle.mc_ring.specs.declared.request.Request.{Request}
use Rattle.mc_ring.specs.declared.request.Request.TheVariants as request
use Rattle.mc_ring.specs.Reply.{Shown, shown}
use Rattle.mc_ring.specs.Channel.{Far}
use Rattle.mc_ring.specs.Route.{Route}
use Rattle.mc_ring.specs.Ends.{AtChannel, Ends, Receives}
use Rattle.mc_store.specs.declared.shard.Shard.{Shard}
use Rattle.mc_store.specs.State.{State}
use Rattle.mc_store.specs.Shard.{Steps, held_of}
use Rattle.mc_model.specs.Log.{Entry}
use Rattle.mc_worker.specs.declared.worker.Turn.TheVariants.{Ran}
use Rattle.mc_worker.specs.WorkerState.{WorkerState, IsWellMarked}
use Rattle.mc_worker.specs.Scribe.{IsRecorded}
use Rattle.mc_worker.specs.Turns.{FindsNothing, RunsPiece, TakesEnd}
use Rattle.mc_worker.proofs.Scribing.{same_entry, takes_item, takes_none, turn_more}
use Rattle.mc_worker.proofs.Steps.{steps_keep}
use Rattle.mc_worker.proofs.Turning.{ran_more}

-- the mark that was read is the seat's
pub mark_is : (worker_state now : WorkerState) (seat : ℕ) (mark said : Bool) → worker_state ≡ now
    → length worker_state.live ≡ length worker_state.ends.channels → seat < length now.ends.channels
    → mark ≡ get_or worker_state.live seat mark → mark ≡ said → slice_get worker_state.live seat ≡ Some said
mark_is worker_state now seat mark said view marked within read is =
    slice_get_read worker_state.live (length worker_state.live) seat mark refl
    (omega (arith, ap (λ (d : WorkerState). length d.ends.channels) view)) read ∙ ap Some is

-- a seat is not both live and ended
not_both : {P : Type 0} {mark : Option Bool} → mark ≡ Some true → mark ≡ Some false → P
not_both live ended = absurd (cc)

-- The seat's End had come before.
pub finds_ended : (old : WorkerState) (seat : ℕ) → old.hand ≡ None → slice_get old.live seat ≡ Some false
    → FindsNothing old seat old
finds_ended old seat free ended =
    record { free = free; live = λ live. not_both live ended; ended = λ here. refl; rest = refl }

-- No request was there.
pub finds_none : {T : Type 0} (old : WorkerState) (seat : ℕ) (ends : Ends Far) → old.hand ≡ None
    → slice_get old.live seat ≡ Some true
    → AtChannel (Receives {Out = Shown} {In = Request} {T = Request × T} (λ got. got.0) None) seat old.ends ends
    → FindsNothing old seat (record old { ends = ends })
finds_none {T} old seat ends free live channel = record {
  free = free;
  live = λ here. takes_none {T = T} seat old.ends ends channel;
  ended = λ ended. not_both live ended;
  rest = refl;
}

-- The End was there.
pub takes_end : {T : Type 0} (old : WorkerState) (seat : ℕ) (token : T) (ends : Ends Far) → old.hand ≡ None
    → slice_get old.live seat ≡ Some true
    → AtChannel (Receives {Out = Shown} {In = Request} {T = Request × T} (λ got. got.0) (Some (request.End, token)))
    seat old.ends ends
    → TakesEnd old seat (record old { ends = ends; live = slice_set old.live seat false })
takes_end old seat token ends free live channel = record {
  free = free;
  live = live;
  channel = takes_item request.End token seat old.ends ends channel;
  rest = refl;
}

-- A piece was there, and was run.
module _ (shard shard' : Shard) (ends ends' : Ends Far) (hand : Option (ℕ × Shown)) (live : List Bool) (seat : ℕ)
    (piece : Piece) (reply : Reply) where
  abbrev pub before_run : WorkerState
  before_run = record { shard = held_of shard; ends = ends; hand = hand; live = live }

  abbrev pub after_run : WorkerState
  after_run = record { shard = held_of shard'; ends = ends'; hand = Some (seat, shown reply); live = live }

  abbrev pub runs_piece : {T : Type 0} (token : T) → hand ≡ None → slice_get live seat ≡ Some true
      → AtChannel (Receives {Out = Shown} {In = Request} {T = Request × T} (λ got. got.0)
      (Some (request.Piece piece, token))) seat ends ends'
      → Steps shard piece.op piece.moment reply.answer shard'
      → shown reply
      ≡ record { ticket = piece.ticket; part = piece.part; kind = kind_of piece.op; answer = reply.answer }
      → RunsPiece before_run seat piece.ticket piece.part piece.moment after_run
  runs_piece token free mark channel steps shows = record {
    entry = record { shard = ends.number; asker = seat; piece = piece; answer = reply.answer };
    shard = refl;
    asker = refl;
    ticket_is = refl;
    part_is = refl;
    moment_is = refl;
    free = free;
    live = mark;
    channel = takes_item (request.Piece piece) token seat ends ends' channel;
    step = steps_keep shard shard' piece.op piece.moment reply.answer steps;
    rest = rw shows refl;
  }

  -- Once it is recorded, the worker is as it is to be.
  pub run_kept : {T : Type 0} (token : T) (keeps keeps' : Type 0) (route route' : ℕ → Route) (begin begin' : State)
      (log log' : List Entry) → hand ≡ None → slice_get live seat ≡ Some true
      → AtChannel (Receives {Out = Shown} {In = Request} {T = Request × T} (λ got. got.0)
      (Some (request.Piece piece, token))) seat ends ends'
      → Steps shard piece.op piece.moment reply.answer shard'
      → shown reply
      ≡ record { ticket = piece.ticket; part = piece.part; kind = kind_of piece.op; answer = reply.answer }
      → (keeps' → keeps) → route' ≡ route → begin' ≡ begin
      → (keeps → log' ≡ log
      ++ record { shard = (route seat).shard; asker = seat; piece = piece; answer = reply.answer } ∷ [])
      → seat < length ends.channels → IsWellMarked before_run → (keeps → IsRecorded route begin log before_run)
      → IsWellMarked after_run × (keeps' → IsRecorded route' begin' log' after_run)
  run_kept token keeps keeps' route route' begin begin' log log' free mark channel steps shows back same_route
      same_begin more within sound was =
      let ran = runs_piece token free mark channel steps shows in
      turn_more keeps keeps' route route' begin begin' log log' ran.entry before_run seat
      (Ran piece.ticket piece.part piece.moment) after_run back same_route same_begin
      (λ kept routes. more kept
      ∙ same_entry log (route seat).shard ends.number seat piece piece reply.answer (routes.shard seat) refl)
      sound within ran (ran_more before_run after_run seat piece.part piece.moment ran within) was
