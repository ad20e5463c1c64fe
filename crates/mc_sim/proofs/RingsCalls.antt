-- The effect of each call on the contents of the rings, from its effect on one channel.
use Rattle.std.proofs.Common.{◌≡◌, ◌↔◌, ℕ, suc, ◌<◌, ◌≤◌, Bool, true, false, not, Option, Some, None, Ok, Err, Result}
use Rattle.std.proofs.Common.{List, [], ◌∷◌, length, get_or, refl, ap, sym, ◌∙◌, arith, slice_set, IsTrue}
use Rattle.std.specs.List.{slice_get}
use Rattle.std.specs.Option.{IfNone, IfSome, is_some, option_map}
use Rattle.std.proofs.lemmas.Option.{same_Some, slice_get_read, slice_get_within}
use Rattle.mc_sizes.specs.declared.sizes.Sizes.{Sizes}
use Rattle.mc_split.specs.declared.plan.Piece.{Piece}
use Rattle.mc_reply.specs.declared.ticket.Ticket.{Ticket}
use Rattle.mc_ring.specs.declared.request.Request.{Request}
use Rattle.mc_ring.specs.declared.request.Request.TheVariants as request
use Rattle.mc_ring.specs.declared.reply.Reply.{Reply}
use Rattle.mc_ring.specs.Reply.{Shown, shown}
use Rattle.mc_ring.specs.Channel.{Near}
use Rattle.mc_ring.specs.Ends.{AtChannel, Ends, Receives, Sends}
use Rattle.mc_worker.specs.declared.worker.Turn.{Turn}
use Rattle.mc_worker.specs.declared.worker.Turn.TheVariants.{Gave, Ran}
use Rattle.mc_sim.specs.declared.sim.rings.Ran.{Ran as RanPiece}
use Rattle.mc_worker.specs.WorkerState.{WorkerState}
use Rattle.mc_worker.specs.Turns.{GivesIt, RunsPiece, Turned}
use Rattle.mc_sim.specs.Laid.{AreIn, AreLaid, Laid, LooksAt}
use Rattle.mc_sim.specs.Rings.{AreThere, AreWired, GivesNone, GivesReply, HaveWires, KeepsPiece, ReceivesNone}
use Rattle.mc_sim.specs.Rings.{ReceivesReply, RunsNone, RunsOldest, SendsPiece, TellsWaiting, Wires}
use Rattle.mc_sim.proofs.RingsChange.{Seen, worker_state_after_here, looked_wired, seat_after_here, seen}
use Rattle.mc_sim.proofs.RingsSteps.{worker_state_within, gave_wired, hand_free, live_there, must_give, must_run}
use Rattle.mc_sim.proofs.RingsSteps.{ran_first, ran_wired, received_first, received_none, received_wired, seat_within}
use Rattle.mc_sim.proofs.RingsSteps.{sent_room, sent_wired}
use Rattle.mc_worker.proofs.Marking.{at_holder}

-- The seat and the shard aren't both there.

-- What a test found to be false doesn't hold.
pub out_of : {P : Type 0} → (IsTrue false ↔ P) → P → ⊥
out_of both is = let e : false ≡ true = both.1 is in cc

in_there : (sizes : Sizes) (laid : Laid) (wires : Wires) (c s : ℕ) → HaveWires sizes laid wires → AreThere sizes c s
    → AreIn laid c s
in_there sizes laid wires c s was there = (rw was.seat_count there.0, rw was.shard_count there.1)

-- If seat or shard doesn't exist, no piece is sent, and the contents of the rings are unchanged.
pub keeps_out : (laid : Laid) (c s : ℕ) → (AreIn laid c s → ⊥) → (sizes : Sizes) (wires : Wires)
    → AreWired sizes laid wires → KeepsPiece sizes wires c s laid
unfolding AreWired
keeps_out laid c s out sizes wires was =
    record { full = λ there. absurd (out (in_there sizes laid wires c s was there)); now = was }

-- If the seat and the shard aren't both there, the answer that no piece waits is right.
pub tells_out : (laid : Laid) (c s : ℕ) → (AreIn laid c s → ⊥) → (sizes : Sizes) (wires : Wires)
    → AreWired sizes laid wires → TellsWaiting sizes wires s c false laid
unfolding AreWired
tells_out laid c s out sizes wires was = record {
  some = λ test. absurd (let e : false ≡ true = test in cc);
  none = λ test there free. absurd (out (in_there sizes laid wires c s was there));
  now = was;
}

-- If seat or shard doesn't exist, no piece is run, and the contents of the rings are unchanged.
pub runs_out : (laid : Laid) (c s : ℕ) → (AreIn laid c s → ⊥) → (sizes : Sizes) (wires : Wires)
    → AreWired sizes laid wires → RunsNone sizes wires s c laid
unfolding AreWired
runs_out laid c s out sizes wires was =
    record { none = λ there free. absurd (out (in_there sizes laid wires c s was there)); now = was }

-- If seat or shard doesn't exist, no reply is received, and the contents of the rings are unchanged.
pub receives_out : (laid : Laid) (c s : ℕ) → (AreIn laid c s → ⊥) → (sizes : Sizes) (wires : Wires)
    → AreWired sizes laid wires → ReceivesNone sizes wires c s laid
unfolding AreWired
receives_out laid c s out sizes wires was =
    record { none = λ there. absurd (out (in_there sizes laid wires c s was there)); now = was }

-- The seat and the shard, where the channel was looked at.

-- The seat that is read after a look at its channel is the one at its index.
pub seat_read : (old mid : Laid) (c s n m : ℕ) (seat : Ends Near) → LooksAt c s old mid n m
    → seat ≡ get_or mid.seats c seat → slice_get mid.seats c ≡ Some seat
seat_read old mid c s n m seat look read =
    slice_get_read mid.seats (length mid.seats) c seat refl
    (slice_get_within mid.seats c look.seat_after (seat_after_here old mid c s n m look)) read

-- The worker that is read after a look at its channel is the one at its index.
pub worker_state_read : (old mid : Laid) (c s n m : ℕ) (worker_state : WorkerState) → LooksAt c s old mid n m
    → worker_state ≡ get_or mid.workers s worker_state → slice_get mid.workers s ≡ Some worker_state
worker_state_read old mid c s n m worker_state look read =
    slice_get_read mid.workers (length mid.workers) s worker_state refl
    (slice_get_within mid.workers s look.worker_state_after (worker_state_after_here old mid c s n m look)) read

-- A seat whose channel to a shard was looked at has a channel at that shard's number.
pub seat_channels : (old mid : Laid) (c s n m : ℕ) (seat : Ends Near) → AreLaid mid → LooksAt c s old mid n m
    → slice_get mid.seats c ≡ Some seat → s < length seat.channels
seat_channels old mid c s n m seat laid look here =
    seat_within mid c s seat look.worker_state_after laid here (worker_state_after_here old mid c s n m look)

-- A worker whose channel to a seat was looked at has a channel at that seat's number.
pub worker_state_channels : (old mid : Laid) (c s n m : ℕ) (worker_state : WorkerState) → AreLaid mid
    → LooksAt c s old mid n m → slice_get mid.workers s ≡ Some worker_state → c < length worker_state.ends.channels
worker_state_channels old mid c s n m worker_state laid look here =
    worker_state_within mid c s look.seat_after worker_state laid (seat_after_here old mid c s n m look) here

-- what is known of the channel, for the seat and the worker that are there
at_both : (sizes : Sizes) (old mid : Laid) (wires : Wires) (c s n m : ℕ) (seat : Ends Near) (worker_state : WorkerState)
    → HaveWires sizes old wires → LooksAt c s old mid n m → slice_get mid.seats c ≡ Some seat → slice_get mid.workers s
    ≡ Some worker_state
    → Seen sizes c s seat worker_state (wires.pieces c s) (wires.replies c s) n m
at_both sizes old mid wires c s n m seat worker_state was look here there =
    let seat_is : seat ≡ look.seat_after =
    same_Some seat look.seat_after (sym here ∙ seat_after_here old mid c s n m look) in
    let worker_state_is : worker_state ≡ look.worker_state_after =
    same_Some worker_state look.worker_state_after (sym there ∙ worker_state_after_here old mid c s n m look) in
    rw (seat_is, worker_state_is) (seen sizes old mid wires c s n m was look)

-- a piece is sent

-- If a look finds the ring of pieces full, sending none is right.
pub keeps_full : (old mid : Laid) (c s n m places : ℕ) → LooksAt c s old mid n m → places ≡ mid.places → places ≤ n
    → (sizes : Sizes) (wires : Wires) → AreWired sizes old wires → KeepsPiece sizes wires c s mid
unfolding AreWired
keeps_full old mid c s n m places look places_are full sizes wires was =
    let now = looked_wired sizes old mid wires c s n m was look in
    let count = (seen sizes old mid wires c s n m was look).piece_count in
    record { full = λ there. let ring = now.places in omega arith; now = now }

sends_now : (sizes : Sizes) (mid : Laid) (wires : Wires) (c s n m : ℕ) (seat seat' : Ends Near)
    (worker_state : WorkerState) (piece : Piece) (result : Result (Unit {0}) Request) → HaveWires sizes mid wires
    → Seen sizes c s seat worker_state (wires.pieces c s) (wires.replies c s) n m → n < sizes.ring
    → slice_get mid.seats c ≡ Some seat → AtChannel (Sends (λ request. request) (request.Piece piece) result) s
    seat seat' → SendsPiece sizes wires c s piece (record mid { seats = slice_set mid.seats c seat' })
unfolding AreWired
sends_now sizes mid wires c s n m seat seat' worker_state piece (Ok tt) now sees room here channel = record {
  room = let count = sees.piece_count in omega arith;
  now = sent_wired sizes mid wires c s seat seat' piece now here channel;
}
sends_now sizes mid wires c s n m seat seat' worker_state piece (Err back) now sees room here channel =
    absurd (sent_room sizes c s seat seat' worker_state (wires.pieces c s) (wires.replies c s) n m piece back sees room
    channel)

-- If a look finds room on the ring, a piece that is sent waits there, behind all others.
pub sends_piece : (old mid : Laid) (c s n m places : ℕ) (seat seat' : Ends Near) (piece : Piece)
    (result : Result (Unit {0}) Request) → LooksAt c s old mid n m → places ≡ mid.places → n < places
    → seat ≡ get_or mid.seats c seat
    → AtChannel (Sends (λ request. request) (request.Piece piece) result) s seat seat' → (sizes : Sizes) (wires : Wires)
    → AreWired sizes old wires → SendsPiece sizes wires c s piece (record mid { seats = slice_set mid.seats c seat' })
unfolding AreWired
sends_piece old mid c s n m places seat seat' piece result look places_are room read channel sizes wires was =
    let now = looked_wired sizes old mid wires c s n m was look in
    let here = seat_read old mid c s n m seat look read in
    sends_now sizes mid wires c s n m seat seat' look.worker_state_after piece result now
    (at_both sizes old mid wires c s n m seat look.worker_state_after was look here
    (worker_state_after_here old mid c s n m look))
    (let ring = now.places in omega arith) here channel

-- If a look finds room on the ring, no piece is handed back.
pub never_back : (P : Type 0) (old mid : Laid) (c s n m places : ℕ) (seat seat' : Ends Near) (piece : Piece)
    (back : Request) → LooksAt c s old mid n m → places ≡ mid.places → n < places → seat ≡ get_or mid.seats c seat
    → AtChannel (Sends (λ request. request) (request.Piece piece) (Err back)) s seat seat'
    → (sizes : Sizes) (wires : Wires) → AreWired sizes old wires → P
unfolding AreWired
never_back P old mid c s n m places seat seat' piece back look places_are room read channel sizes wires was =
    let now = looked_wired sizes old mid wires c s n m was look in
    let here = seat_read old mid c s n m seat look read in
    absurd (sent_room sizes c s seat seat' look.worker_state_after (wires.pieces c s) (wires.replies c s) n m piece back
    (at_both sizes old mid wires c s n m seat look.worker_state_after was look here
    (worker_state_after_here old mid c s n m look)) (let ring = now.places in omega arith) channel)

-- a reply is received

none_long : {A : Type 0} (xs : List A) (n : ℕ) → n ≡ length xs → n ≡ 0 → xs ≡ []
none_long [] n count none = refl
none_long (x ∷ xs) n count none = absurd (let e : suc (length xs) ≡ 0 = sym count ∙ none in omega (arith, e))

-- If a look finds no reply waiting, receiving none is right.
pub receives_zero : (old mid : Laid) (c s n m : ℕ) → LooksAt c s old mid n m → m ≡ 0 → (sizes : Sizes) (wires : Wires)
    → AreWired sizes old wires → ReceivesNone sizes wires c s mid
unfolding AreWired
receives_zero old mid c s n m look no_wait sizes wires was = record {
  none = λ there. none_long (wires.replies c s) m (seen sizes old mid wires c s n m was look).reply_count no_wait;
  now = looked_wired sizes old mid wires c s n m was look;
}

pub receives_reply : (old mid : Laid) (c s n m : ℕ) (seat seat' : Ends Near) (reply : Reply) → LooksAt c s old mid n m
    → 0 < m → seat ≡ get_or mid.seats c seat → AtChannel (Receives shown (Some reply)) s seat seat'
    → (sizes : Sizes) (wires : Wires) → AreWired sizes old wires
    → ReceivesReply sizes wires c s (shown reply) (record mid { seats = slice_set mid.seats c seat' })
unfolding AreWired
receives_reply old mid c s n m seat seat' reply look some read channel sizes wires was =
    let now = looked_wired sizes old mid wires c s n m was look in
    let here = seat_read old mid c s n m seat look read in
    let sees = at_both sizes old mid wires c s n m seat look.worker_state_after was look here
    (worker_state_after_here old mid c s n m look) in
    let first = received_first sizes c s seat seat' look.worker_state_after (wires.pieces c s) (wires.replies c s) n m
    reply sees some channel in
    record {
      rest = first.0;
      oldest = first.1;
      now = received_wired sizes mid wires c s seat seat' reply first.0 now here channel first.1;
    }

pub never_none : (P : Type 0) (old mid : Laid) (c s n m : ℕ) (seat seat' : Ends Near) → LooksAt c s old mid n m → 0 < m
    → seat ≡ get_or mid.seats c seat → AtChannel (Receives {T = Reply} shown None) s seat seat'
    → (sizes : Sizes) (wires : Wires) → AreWired sizes old wires → P
unfolding AreWired
never_none P old mid c s n m seat seat' look some read channel sizes wires was =
    let here = seat_read old mid c s n m seat look read in
    let sees = at_both sizes old mid wires c s n m seat look.worker_state_after was look here
    (worker_state_after_here old mid c s n m look) in
    absurd (received_none sizes c s seat seat' look.worker_state_after (wires.pieces c s) (wires.replies c s) n m sees
    some channel)

-- If a look finds a reply waiting, the reply that is received is the oldest.
pub received : (old mid : Laid) (c s n m : ℕ) (seat seat' : Ends Near) (result : Option Reply) → LooksAt c s old mid n m
    → 0 < m → seat ≡ get_or mid.seats c seat → AtChannel (Receives shown result) s seat seat'
    → IfSome result (λ reply. (sizes : Sizes) (wires : Wires) → AreWired sizes old wires
    → ReceivesReply sizes wires c s (shown reply) (record mid { seats = slice_set mid.seats c seat' }))
received old mid c s n m seat seat' None look some read channel = tt
received old mid c s n m seat seat' (Some reply) look some read channel =
    receives_reply old mid c s n m seat seat' reply look some read channel

-- If a look finds a reply and yet none is received, none waits: a case that never comes.
pub received_nothing : (old mid : Laid) (c s n m : ℕ) (seat seat' : Ends Near) (result : Option Reply)
    → LooksAt c s old mid n m → 0 < m → seat ≡ get_or mid.seats c seat → AtChannel (Receives shown result) s seat seat'
    → IfNone result ((sizes : Sizes) (wires : Wires) → AreWired sizes old wires
    → ReceivesNone sizes wires c s (record mid { seats = slice_set mid.seats c seat' }))
received_nothing old mid c s n m seat seat' None look some read channel =
    λ sizes wires was. never_none (ReceivesNone sizes wires c s (record mid { seats = slice_set mid.seats c seat' }))
    old mid c s n m seat seat' look some read channel sizes wires was
received_nothing old mid c s n m seat seat' (Some reply) look some read channel = tt

-- whether a piece waits

-- If a look finds no piece waiting, the answer that none may be run is right.
pub tells_zero : (old mid : Laid) (c s n m : ℕ) → LooksAt c s old mid n m → n ≡ 0 → (sizes : Sizes) (wires : Wires)
    → AreWired sizes old wires → TellsWaiting sizes wires s c false mid
unfolding AreWired
tells_zero old mid c s n m look no_wait sizes wires was = record {
  some = λ test. absurd (let e : false ≡ true = test in cc);
  none =
      λ test there free. none_long (wires.pieces c s) n (seen sizes old mid wires c s n m was look).piece_count no_wait;
  now = looked_wired sizes old mid wires c s n m was look;
}

some_flow : (hand : Option (ℕ × Shown)) → is_some (option_map (λ held. held.0) hand) ≡ true → hand ≡ None → ⊥
some_flow None test free = let e : false ≡ true = test in cc
some_flow (Some held) test free = let e : Some held ≡ None = free in cc

pub none_flow : (hand : Option (ℕ × Shown)) → is_some (option_map (λ held. held.0) hand) ≡ false → hand ≡ None
none_flow None test = refl
none_flow (Some held) test = absurd (let e : true ≡ false = test in cc)

-- If a look finds a piece waiting, it is right to answer by whether the worker's hand is empty.
pub tells_held : (old mid : Laid) (c s n m : ℕ) (worker_state : WorkerState) (result : Bool) → LooksAt c s old mid n m
    → 0 < n → worker_state ≡ get_or mid.workers s worker_state → is_some (option_map (λ held. held.0) worker_state.hand)
    ≡ not result
    → (sizes : Sizes) (wires : Wires) → AreWired sizes old wires → TellsWaiting sizes wires s c result mid
unfolding AreWired
tells_held old mid c s n m worker_state result look some read flow sizes wires was =
    let now = looked_wired sizes old mid wires c s n m was look in
    let there = worker_state_read old mid c s n m worker_state look read in
    let hand_is = (now.each_worker s worker_state there).hand_is in
    let count = (seen sizes old mid wires c s n m was look).piece_count in
    record {
      some = λ test. (sym hand_is ∙ none_flow worker_state.hand (flow ∙ ap not test), omega arith);
      none = λ test in_it free. absurd (some_flow worker_state.hand (flow ∙ ap not test) (hand_is ∙ free));
      now = now;
    }

-- a piece is run

-- If a look finds no piece waiting, running none is right.
pub runs_zero : (old mid : Laid) (c s n m : ℕ) → LooksAt c s old mid n m → n ≡ 0 → (sizes : Sizes) (wires : Wires)
    → AreWired sizes old wires → RunsNone sizes wires s c mid
unfolding AreWired
runs_zero old mid c s n m look no_wait sizes wires was = record {
  none = λ there free. none_long (wires.pieces c s) n (seen sizes old mid wires c s n m was look).piece_count no_wait;
  now = looked_wired sizes old mid wires c s n m was look;
}

-- the worker is the one whose hand was empty
pub free_hand : (mid : Laid) (s : ℕ) (before worker_state : WorkerState) → slice_get mid.workers s ≡ Some before
    → slice_get mid.workers s ≡ Some worker_state → is_some (option_map (λ held. held.0) before.hand) ≡ false
    → worker_state.hand ≡ None
free_hand mid s before worker_state there there' test =
    ap (λ (worker_state : WorkerState). worker_state.hand) (same_Some worker_state before (sym there' ∙ there))
    ∙ none_flow before.hand test

-- If the worker's hand is full, running no piece is right.
pub runs_held : (old mid : Laid) (c s n m : ℕ) (worker_state : WorkerState) → LooksAt c s old mid n m → worker_state
    ≡ get_or mid.workers s worker_state → is_some (option_map (λ held. held.0) worker_state.hand) ≡ true
    → (sizes : Sizes) (wires : Wires) → AreWired sizes old wires → RunsNone sizes wires s c mid
unfolding AreWired
runs_held old mid c s n m worker_state look read flow sizes wires was =
    let now = looked_wired sizes old mid wires c s n m was look in
    let there = worker_state_read old mid c s n m worker_state look read in
    let hand_is = (now.each_worker s worker_state there).hand_is in
    record { none = λ in_it free. absurd (some_flow worker_state.hand flow (hand_is ∙ free)); now = now }

-- If a look finds a piece waiting and the worker's hand is empty, the piece that it runs is the seat's
-- oldest.
pub runs_oldest : (old mid : Laid) (c s n m : ℕ) (worker_state worker_state' : WorkerState) (ran : RanPiece)
    → LooksAt c s old mid n m → 0 < n → worker_state ≡ get_or mid.workers s worker_state → worker_state.hand ≡ None
    → RunsPiece worker_state c ran.ticket ran.part ran.moment worker_state'
    → (sizes : Sizes) (wires : Wires) → AreWired sizes old wires
    → RunsOldest sizes wires s c ran (record mid { workers = slice_set mid.workers s worker_state' })
unfolding AreWired
runs_oldest old mid c s n m worker_state worker_state' ran look some read free runs sizes wires was =
    let now = looked_wired sizes old mid wires c s n m was look in
    let there = worker_state_read old mid c s n m worker_state look read in
    let sees = at_both sizes old mid wires c s n m look.seat_after worker_state was look
    (seat_after_here old mid c s n m look) there in
    let first = ran_first sizes c s look.seat_after worker_state worker_state' (wires.pieces c s) (wires.replies c s) n
    m sees some runs in
    let stepped = ran_wired sizes mid wires c s worker_state worker_state' first.0 now there runs first.1 in
    record {
      entry = runs.entry;
      shard_is = runs.shard ∙ now.laid.worker_number s worker_state there;
      after = stepped.0;
      rest = first.0;
      oldest = first.1;
      free = sym (now.each_worker s worker_state there).hand_is ∙ free;
      step = stepped.1;
      ticket = sym runs.ticket_is;
      part = sym runs.part_is;
      moment = sym runs.moment_is;
      now = stepped.2;
    }

-- If one waits and the hand is empty, the turn can't do anything else.
pub runs_for_sure : (P : Type 0) (old mid : Laid) (c s n m : ℕ) (worker_state worker_state' : WorkerState) (turn : Turn)
    → LooksAt c s old mid n m → 0 < n → worker_state ≡ get_or mid.workers s worker_state → worker_state.hand ≡ None
    → Turned worker_state c turn worker_state'
    → ((ticket : Ticket) (part moment : ℕ) → turn ≡ Ran ticket part moment → ⊥) → (sizes : Sizes) (wires : Wires)
    → AreWired sizes old wires → P
unfolding AreWired
runs_for_sure P old mid c s n m worker_state worker_state' turn look some read free turned other sizes wires was =
    let now = looked_wired sizes old mid wires c s n m was look in
    let there = worker_state_read old mid c s n m worker_state look read in
    let here = seat_after_here old mid c s n m look in
    let sees = at_both sizes old mid wires c s n m look.seat_after worker_state was look here there in
    let did = must_run sizes c s look.seat_after worker_state worker_state' (wires.pieces c s) (wires.replies c s) n m
    turn sees some free (live_there sizes mid wires c s look.seat_after worker_state now here there) turned in
    absurd (other did.0 did.1 did.2 did.3)

-- a reply is given

-- A shard that isn't there gives no reply.
pub gives_nowhere : (laid : Laid) (s : ℕ) → length laid.workers ≤ s → (sizes : Sizes) (wires : Wires)
    → AreWired sizes laid wires → GivesNone sizes wires s laid
unfolding AreWired
gives_nowhere laid s past sizes wires was =
    record {
      full = λ within seat reply held. absurd (let e = was.shard_count in omega (arith, e, past, within));
      now = was;
    }

-- If the worker's hand is empty, giving no reply is right.
pub gives_empty : (laid : Laid) (s : ℕ) (worker_state : WorkerState) → slice_get laid.workers s ≡ Some worker_state
    → option_map (λ held. held.0) worker_state.hand ≡ None → (sizes : Sizes) (wires : Wires) → AreWired sizes laid wires
    → GivesNone sizes wires s laid
unfolding AreWired
gives_empty laid s worker_state there none sizes wires was = record {
  full =
      λ within seat reply held. absurd
      (let e : None ≡ Some (seat, reply) = sym (hand_free worker_state.hand none)
      ∙ (was.each_worker s worker_state there).hand_is ∙ held in cc);
  now = was;
}

-- A worker with a channel for a seat gives no reply where seat and shard aren't both there: a case that never
-- comes.
pub gives_out : (laid : Laid) (c s : ℕ) (worker_state : WorkerState) → slice_get laid.workers s ≡ Some worker_state
    → c < length worker_state.ends.channels → (AreIn laid c s → ⊥) → (sizes : Sizes) (wires : Wires)
    → AreWired sizes laid wires → GivesNone sizes wires s laid
unfolding AreWired
gives_out laid c s worker_state there channel out sizes wires was =
    let within = slice_get_within laid.workers s worker_state there in
    let seats : c < length laid.seats = let a = (was.each_worker s worker_state there).counted in let b =
    was.seat_count in omega arith in
    absurd (out (seats, within))

seat_held : (hand : Option (ℕ × Shown)) (c seat : ℕ) (reply : Shown) → option_map (λ held. held.0) hand ≡ Some c → hand
    ≡ Some (seat, reply) → seat ≡ c
seat_held hand c seat reply held is = sym (same_Some c seat (sym held ∙ ap (option_map (λ held. held.0)) is))

-- If a look finds the ring of replies full, keeping the reply in the hand is right.
pub gives_full : (old mid : Laid) (c s n m places : ℕ) (worker_state : WorkerState) → LooksAt c s old mid n m → places
    ≡ mid.places → places ≤ m → slice_get old.workers s ≡ Some worker_state
    → option_map (λ held. held.0) worker_state.hand ≡ Some c
    → (sizes : Sizes) (wires : Wires) → AreWired sizes old wires → GivesNone sizes wires s mid
unfolding AreWired
gives_full old mid c s n m places worker_state look places_are full there held sizes wires was =
    let now = looked_wired sizes old mid wires c s n m was look in
    let count = (seen sizes old mid wires c s n m was look).reply_count in
    let ring = now.places in
    let all : sizes.ring ≤ length (wires.replies c s) = omega arith in
    record {
      full =
          λ within seat reply is. rw (seat_held worker_state.hand c seat reply held
          ((was.each_worker s worker_state there).hand_is ∙ is)) all;
      now = now;
    }

-- the reply held is unchanged after the look
held_after : (old mid : Laid) (c s n m : ℕ) (worker_state worker_state_now : WorkerState) → LooksAt c s old mid n m
    → slice_get old.workers s ≡ Some worker_state → slice_get mid.workers s ≡ Some worker_state_now
    → worker_state_now.hand ≡ worker_state.hand
held_after old mid c s n m worker_state worker_state_now look there there_now =
    let was : look.worker_state ≡ worker_state =
    same_Some look.worker_state worker_state (sym look.worker_state_here ∙ there) in
    let is : worker_state_now ≡ look.worker_state_after =
    same_Some worker_state_now look.worker_state_after (sym there_now ∙ worker_state_after_here old mid c s n m look) in
    ap (λ (worker_state : WorkerState). worker_state.hand) is
    ∙ ap (λ (worker_state : WorkerState). worker_state.hand) look.rest
    ∙ ap (λ (worker_state : WorkerState). worker_state.hand) was

-- If a look finds that the ring isn't full, the reply in the hand is appended to it, and the hand is empty.
pub gives_reply : (old mid : Laid) (c s n m places : ℕ) (before worker_state worker_state' : WorkerState)
    → LooksAt c s old mid n m → places ≡ mid.places → m < places → slice_get old.workers s ≡ Some before
    → option_map (λ held. held.0) before.hand ≡ Some c
    → worker_state ≡ get_or mid.workers s worker_state → GivesIt worker_state worker_state'
    → (sizes : Sizes) (wires : Wires) → AreWired sizes old wires
    → GivesReply sizes wires s (record mid { workers = slice_set mid.workers s worker_state' })
unfolding AreWired
gives_reply old mid c s n m places before worker_state worker_state' look places_are room had held read gave sizes wires
    was =
    let now = looked_wired sizes old mid wires c s n m was look in
    let there = worker_state_read old mid c s n m worker_state look read in
    let hand = at_holder before.hand c held in
    let hand_is : worker_state.hand ≡ Some (c, hand.0) = held_after old mid c s n m before worker_state look had there
    ∙ hand.1 in
    let count = (seen sizes old mid wires c s n m was look).reply_count in
    let ring = now.places in
    record {
      seat = c;
      reply = hand.0;
      held = sym (now.each_worker s worker_state there).hand_is ∙ hand_is;
      there = (
        rw (← now.seat_count) (slice_get_within mid.seats c look.seat_after (seat_after_here old mid c s n m look)),
        rw (← now.shard_count) (slice_get_within mid.workers s worker_state there),
      );
      room = omega arith;
      now = gave_wired sizes mid wires c s worker_state worker_state' hand.0 now there hand_is gave;
    }

-- If a reply is in the hand and the ring has room, the turn can't do anything else.
pub gives_for_sure : (P : Type 0) (old mid : Laid) (c s n m places : ℕ)
    (before worker_state worker_state' : WorkerState) (turn : Turn) → LooksAt c s old mid n m → places ≡ mid.places
    → m < places → slice_get old.workers s ≡ Some before
    → option_map (λ held. held.0) before.hand ≡ Some c → worker_state ≡ get_or mid.workers s worker_state
    → Turned worker_state c turn worker_state' → (turn ≡ Gave → ⊥) → (sizes : Sizes) (wires : Wires)
    → AreWired sizes old wires → P
unfolding AreWired
gives_for_sure P old mid c s n m places before worker_state worker_state' turn look places_are room had held read turned
    other sizes wires was =
    let now = looked_wired sizes old mid wires c s n m was look in
    let there = worker_state_read old mid c s n m worker_state look read in
    let hand = at_holder before.hand c held in
    let hand_is : worker_state.hand ≡ Some (c, hand.0) = held_after old mid c s n m before worker_state look had there
    ∙ hand.1 in
    let sees = at_both sizes old mid wires c s n m look.seat_after worker_state was look
    (seat_after_here old mid c s n m look) there in
    let ring = now.places in
    absurd (other (must_give sizes c s look.seat_after worker_state worker_state' (wires.pieces c s) (wires.replies c s)
    n m turn hand.0 sees (omega arith) hand_is turned))
