-- The events of the rings lead a core on: send, give and receive.
use Rattle.std.proofs.Common.{◌≡◌, ◌≢◌, ℕ, zero, suc, ◌+◌, ◌<◌, ◌≤◌, ◌==◌, inl, inr, cond, true, false, Option, Some}
use Rattle.std.proofs.Common.{None, List, [], ◌∷◌, ◌++◌, length, take, drop, refl, sym, ap, ◌∙◌, subst, arith}
use Rattle.std.proofs.Common.{slice_set, slice_index_or, append-nil, length-append, eq-eqb, ne_eqb}
use Rattle.std.specs.Prelude.{IsTrue}
use Rattle.std.specs.List.{slice_get}
use Rattle.std.proofs.lemmas.Bool.{cases_eq, cases_lt}
use Rattle.std.proofs.lemmas.List.{drop-append-le, length-map, length-take-le, take-append-drop}
use Rattle.std.proofs.lemmas.Option.{same_Some, slice_get_within}
use Rattle.mc_sizes.specs.declared.sizes.Sizes.{Sizes}
use Rattle.mc_ring.specs.Reply.{Shown}
use Rattle.mc_ring.specs.EndsLaws.{get-set_same, length-slice_set}
use Rattle.mc_split.specs.declared.plan.Piece.{Piece}
use Rattle.mc_conn.specs.declared.conn.Conn.{Conn}
use Rattle.mc_conn.specs.Conn.{IsConn}
use Rattle.mc_conn.specs.Flow.{Flow, all_pieces}
use Rattle.mc_conn.specs.Due.{channel, pieces}
use Rattle.mc_conn.proofs.Counting.{due_beyond}
use Rattle.mc_conn.proofs.Places.{channel-append, channel-no, channel-yes}
use Rattle.mc_model.specs.declared.event.StepReply.TheVariants as replied
use Rattle.mc_sim.specs.declared.sim.Seat.{Seat}
use Rattle.mc_sim.specs.declared.sim.Sim.{Sim}
use Rattle.mc_model.specs.Log.{of_asker, on_shard, replies_in, reply_to}
use Rattle.mc_model.specs.World.{IsAt, Link, World, ran, sent_to, with_link}
use Rattle.mc_model.specs.Events.{IsEmptyHand, MaySend, one_more}
use Rattle.mc_model.specs.Events.Event.{Send, Give}
use Rattle.mc_model.specs.Schedule.{Happens}
use Rattle.mc_model.specs.declared.event.StepReply.TheVariants.{Done}
use Rattle.mc_sim.specs.Rings.{AreWired, GivesNone, GivesReply, KeepsPiece, SendsPiece, Wires, with_channel, with_shard}
use Rattle.mc_sim.specs.Stands.{HandIs, IsHolding, IsServing, IsWorld, KeepsLink, SeatIs, Stands, StepsByEvent, flow_of}
use Rattle.mc_sim.specs.Stands.{unreceived, unrun}
use Rattle.mc_model.proofs.Lists.{at_once, set_cases, take_next}
use Rattle.mc_model.proofs.Every.{event_kept}
use Rattle.mc_model.proofs.Links.{ran_within}
use Rattle.mc_sim.proofs.Changing.{at_same, hand_on, mirrors_on, one_at}
use Rattle.mc_sim.proofs.Standing.{found, kept_same, seats_set, world_on}
use Rattle.mc_sim.proofs.AtSeat.{Finds, get_index}
use Rattle.mc_ring.proofs.Lists.{get_below}

pub length_drop : {X : Type 0} (n : ℕ) (xs : List X) → n ≤ length xs → n + length (drop n xs) ≡ length xs
length_drop zero [] le = omega arith
length_drop zero (x ∷ xs) le = omega arith
length_drop (suc n) [] le = absurd (omega (arith, le))
length_drop (suc n) (x ∷ xs) le = let deeper = length_drop n xs (omega (arith, le)) in omega (arith, deeper)

-- the first of what is left, and the rest
pub drop_first : {X : Type 0} (n : ℕ) (xs : List X) (x : X) (rest : List X) → drop n xs ≡ x ∷ rest
    → (slice_get xs n ≡ Some x) × (drop (n + 1) xs ≡ rest)
drop_first zero [] x rest e = absurd (cc)
drop_first zero (y ∷ xs) x rest e = (ap (λ ys. slice_get ys 0) e, ap (λ ys. drop 1 ys) e)
drop_first (suc n) [] x rest e = absurd (cc)
drop_first (suc n) (y ∷ xs) x rest e =
    let deeper = drop_first n xs x rest e in
    let at : suc n + 1 ≡ suc (n + 1) = omega arith in (deeper.0, ap (λ m. drop m (y ∷ xs)) at ∙ deeper.1)

module _ {X : Type 0} where
  -- A channel that was set holds what it was set to.
  pub with_here : (old : ℕ → ℕ → X) (c t s : ℕ) (x : X) → s ≡ t → with_channel old c t x c s ≡ x
  with_here old c t s x same =
      ap (λ b. cond b (cond (s == t) x (old c s)) (old c s)) (eq-eqb c c refl)
      ∙ ap (λ b. cond b x (old c s)) (eq-eqb s t same)

  -- Setting a channel leaves those of the connection to other shards unchanged.
  pub with_not : (old : ℕ → ℕ → X) (c t s : ℕ) (x : X) → s ≢ t → with_channel old c t x c s ≡ old c s
  with_not old c t s x other =
      ap (λ b. cond b (cond (s == t) x (old c s)) (old c s)) (eq-eqb c c refl)
      ∙ ap (λ b. cond b x (old c s)) (ne_eqb s t other)

  -- Setting a channel leaves those of other connections.
  pub with_far : (old : ℕ → ℕ → X) (c t d s : ℕ) (x : X) → d ≢ c → with_channel old c t x d s ≡ old d s
  with_far old c t d s x other = ap (λ b. cond b (cond (s == t) x (old d s)) (old d s)) (ne_eqb d c other)

  -- A shard that was set holds what it was set to.
  pub shard_here : (old : ℕ → X) (t s : ℕ) (x : X) → s ≡ t → with_shard old t x s ≡ x
  shard_here old t s x same = ap (λ b. cond b x (old s)) (eq-eqb s t same)

  -- Setting a shard leaves the others.
  pub shard_not : (old : ℕ → X) (t s : ℕ) (x : X) → s ≢ t → with_shard old t x s ≡ old s
  shard_not old t s x other = ap (λ b. cond b x (old s)) (ne_eqb s t other)

-- only a shard that is there has a piece
pub there_is : (sizes : Sizes) (link : Link) (shard : ℕ) (piece : Piece) (n : ℕ) → 0 < sizes.shards
    → slice_get (pieces sizes.shards link.taken) n ≡ Some (shard, piece) → shard < sizes.shards
there_is sizes link shard piece n some here = elim (cases_lt shard sizes.shards) [
  | inl below ↦ below
  | inr beyond ↦
      let all = pieces sizes.shards link.taken in
      let none : channel shard all ≡ [] = due_beyond sizes.shards shard link.taken some beyond in
      let whole = ap length (sym (channel-append shard (take (n + 1) all) (drop (n + 1) all))
      ∙ ap (λ ps. channel shard ps) (take-append-drop (n + 1) all)) in
      let longer = ap length (ap (λ ps. channel shard ps) (take_next n all (shard, piece) here)
      ∙ (channel-append shard (take n all) ((shard, piece) ∷ [])
      ∙ ap (λ ps. channel shard (take n all) ++ ps) (channel-yes shard (shard, piece) [] refl))) in
      let empty = ap length none in
      absurd (omega (
        arith,
        whole,
        longer,
        empty,
        length-append (channel shard (take n all)) (piece ∷ []),
        length-append (channel shard (take (n + 1) all)) (channel shard (drop (n + 1) all)),
      ))
]

-- A simulator whose seat and rings changed inside, with an unchanged world.
pub inside : (sizes : Sizes) (w : World) (old new : Sim) (c number : ℕ) (link : Link) (place after : Seat)
    → (world : IsWorld sizes old w) → Finds old c number place → IsAt w c number link → new.seats.items
    ≡ slice_set old.seats.items c after → after.current ≡ place.current →
    IsServing sizes (of_asker number w.log) link after.conn → new.connections.items ≡ old.connections.items
    → new.log.items ≡ old.log.items → AreWired sizes new.rings world.wires → IsWorld sizes new w
inside sizes w old new c number link place after world finds at set same serving connections log wired =
    let is : SeatIs sizes w c after.conn after.current =
    subst (λ o. SeatIs sizes w c after.conn o) (sym (same ∙ finds.current)) (link, at, serving) in
    let seats = seats_set sizes w c old.seats.items new.seats.items place after finds.here set is in
    record {
      within = world.within;
      law = world.law;
      seat_count = seats.count ∙ world.seat_count;
      each_seat = λ d seat here. elim (cases_eq d c) [
        | inl this ↦ subst (λ e. SeatIs sizes w e seat.conn seat.current) (sym this)
            (seats.here seat (ap (λ e. slice_get new.seats.items e) (sym this) ∙ here))
        | inr apart ↦ world.each_seat d seat (seats.others d seat apart here)
      ];
      seated = world.seated;
      count = ap length connections ∙ world.count;
      keeps = λ k one kept at_k here. world.keeps k one kept at_k (ap (λ xs. slice_get xs k) (sym connections) ∙ here);
      log = log ∙ world.log;
      wires = world.wires;
      wired = wired;
      mirrors = world.mirrors;
    }

-- how many pieces wait on a ring
pub waiting : (sizes : Sizes) (w : World) (old : Sim) (c number : ℕ) (link : Link) (shard : ℕ)
    → (world : IsWorld sizes old w) → IsAt w c number link → ran w number shard + length (world.wires.pieces c shard)
    ≡ sent_to sizes shard link
waiting sizes w old c number link shard world at =
    let own = world.law.links number link at.here in
    ap (λ ps. ran w number shard + length ps) (world.mirrors.channels c number link at shard).0
    ∙ length_drop (ran w number shard) (channel shard (take link.sent (pieces sizes.shards link.taken)))
    (own.popped shard)

-- A piece was sent.
pub sends : (old new : Sim) (c number shard : ℕ) (piece : Piece) (place after : Seat) → Finds old c number place
    → number < length old.connections.items →
    ((flow : Flow) → IsConn place.conn flow → (slice_get (all_pieces flow) flow.out ≡ Some (shard, piece))
    × IsConn after.conn (record flow { out = flow.out + 1; lent = true })) →
    after.current ≡ place.current → new.seats.items ≡ slice_set old.seats.items c after → new.connections.items
    ≡ old.connections.items → new.log.items ≡ old.log.items →
    ((sizes : Sizes) (wires : Wires) → AreWired sizes old.rings wires → SendsPiece sizes wires c shard piece new.rings)
    → StepsByEvent old (Send c) replied.Done new
unfolding Stands
sends old new c number shard piece place after finds below conn same set connections log send sizes w world =
    let f = found sizes w old c number place world finds.here finds.current in
    let link = f.0 in
    let at = f.1 in
    let s = f.2 in
    let o = conn (flow_of sizes link s.lent s.accepted) s.is in
    let own = world.law.links number link at.here in
    let sent = send sizes world.wires world.wired in
    let count = waiting sizes w old c number link shard world at in
    let room = sent.room in
    let all = pieces sizes.shards link.taken in
    let next : Link = record link { sent = link.sent + 1 } in
    let w' = with_link w number next in
    let happens : Happens sizes w (Send c) Done w' =
    (number, link, (at, record { piece = (shard, piece); next = o.0; room = omega (arith, count, room) }), refl) in
    let law = event_kept sizes w (Send c) Done w' world.within.shards.0 happens world.law in
    let serving : IsServing sizes (of_asker number w.log) next after.conn =
    record { lent = true; accepted = s.accepted; is = o.1; fits = s.fits } in
    let is : SeatIs sizes w' c after.conn after.current =
    subst (λ x. SeatIs sizes w' c after.conn x) (sym (same ∙ finds.current))
    (next, at_same w c number link next at refl, serving) in
    let kept = get_below old.connections.items number below in
    let h = world.keeps number link kept.0 at.here kept.1 in
    let keeps : KeepsLink sizes w' number next kept.0 =
    record { seat = h.seat; ended = h.ended; broken = h.broken; fed = h.fed; handed = h.handed } in
    let old_pieces = world.wires.pieces in
    let wait = world.mirrors.channels c number link at in
    let more : (t : ℕ) → unrun sizes w number t next ≡ unrun sizes w number t link ++ channel t ((shard, piece) ∷ []) =
    λ t.
    ap (λ ps. drop (ran w number t) (channel t ps)) (take_next link.sent all (shard, piece) o.0)
    ∙ (ap (λ ps. drop (ran w number t) ps) (channel-append t (take link.sent all) ((shard, piece) ∷ []))
    ∙ drop-append-le (ran w number t) (channel t (take link.sent all)) (channel t ((shard, piece) ∷ [])) (own.popped t))
    in
    let now_pieces = with_channel old_pieces c shard (old_pieces c shard ++ piece ∷ []) in
    let mine : (t : ℕ) → now_pieces c t ≡ unrun sizes w number t next = λ t. elim (cases_eq t shard) [
      | inl here ↦
          with_here old_pieces c shard t (old_pieces c shard ++ piece ∷ []) here
          ∙ (ap (λ e. old_pieces c e ++ piece ∷ []) (sym here)
          ∙ (ap (λ ps. ps ++ piece ∷ []) (wait t).0
          ∙ (ap (λ ps. unrun sizes w number t link ++ ps) (sym (channel-yes t (shard, piece) [] (sym here)))
          ∙ sym (more t))))
      | inr other ↦
          with_not old_pieces c shard t (old_pieces c shard ++ piece ∷ []) other
          ∙ ((wait t).0
          ∙ (sym (append-nil (unrun sizes w number t link))
          ∙ (ap (λ ps. unrun sizes w number t link ++ ps) (sym (channel-no t (shard, piece) [] (λ e. other (sym e))))
          ∙ sym (more t))))
    ] in
    let mirrors = mirrors_on sizes w world.wires (record world.wires { pieces = now_pieces }) c number link next
    world.mirrors at refl
    (λ t. (mine t, (wait t).1))
    (λ d t apart. (with_far old_pieces c shard d t (old_pieces c shard ++ piece ∷ []) apart, refl))
    (λ t below_t. hand_on w t number link next (world.wires.hand t) at.here refl refl (world.mirrors.hands t below_t))
    (λ t. refl) in (
      w',
      happens,
      world_on sizes w c number link next old new (record world.wires { pieces = now_pieces }) world at refl law
          (seats_set sizes w' c old.seats.items new.seats.items place after finds.here set is)
          (kept_same sizes w' number next old.connections.items new.connections.items kept.0 kept.1 connections keeps)
          log sent.now mirrors,
    )

-- No piece is unsent.
pub sends_none : (old new : Sim) (c number : ℕ) (place after : Seat) → Finds old c number place
    → ((flow : Flow) → IsConn place.conn flow → (flow.out ≡ length (all_pieces flow)) × IsConn after.conn flow) →
    after.current ≡ place.current → new.seats.items ≡ slice_set old.seats.items c after → new.connections.items
    ≡ old.connections.items → new.log.items ≡ old.log.items → new.rings ≡ old.rings
    → StepsByEvent old (Send c) replied.Idle new
unfolding Stands
sends_none old new c number place after finds conn same set connections log rings sizes w world =
    let f = found sizes w old c number place world finds.here finds.current in
    let link = f.0 in
    let s = f.2 in
    let o = conn (flow_of sizes link s.lent s.accepted) s.is in (
      w,
      (
        inl (λ e.
            let one = one_at w c number e.0 link e.1 f.1 e.2.0 in
            let may : MaySend sizes w number link =
            subst (λ x. MaySend sizes w number x) (sym one.1) (subst (λ n. MaySend sizes w n e.1) (sym one.0) e.2.1) in
            let within = slice_get_within (pieces sizes.shards link.taken) link.sent may.piece may.next in
            let all = o.0 in
            absurd (omega (arith, within, all))),
        refl,
      ),
      inside sizes w old new c number link place after world finds f.1 set same
          (record { lent = s.lent; accepted = s.accepted; is = o.1; fits = s.fits }) connections log
          (subst (λ r. AreWired sizes r world.wires) (sym rings) world.wired),
    )

-- The piece was put back: its ring is full.
pub sends_full : (old new : Sim) (c number shard : ℕ) (piece : Piece) (place after : Seat) → Finds old c number place →
    ((flow : Flow) → IsConn place.conn flow → (slice_get (all_pieces flow) flow.out ≡ Some (shard, piece))
    × IsConn after.conn (record flow { lent = false })) →
    after.current ≡ place.current → new.seats.items ≡ slice_set old.seats.items c after → new.connections.items
    ≡ old.connections.items → new.log.items ≡ old.log.items →
    ((sizes : Sizes) (wires : Wires) → AreWired sizes old.rings wires → KeepsPiece sizes wires c shard new.rings)
    → StepsByEvent old (Send c) replied.Idle new
unfolding Stands
sends_full old new c number shard piece place after finds conn same set connections log send sizes w world =
    let f = found sizes w old c number place world finds.here finds.current in
    let link = f.0 in
    let at = f.1 in
    let s = f.2 in
    let o = conn (flow_of sizes link s.lent s.accepted) s.is in
    let kept = send sizes world.wires world.wired in
    let seat : c < sizes.seats = let below = world.seated number link at.here in let e = at.seat_is in
    omega (arith, below, e) in
    let full = kept.full (seat, there_is sizes link shard piece link.sent world.within.shards.0 o.0) in
    let count = waiting sizes w old c number link shard world at in (
      w,
      (
        inl (λ e.
            let one = one_at w c number e.0 link e.1 at e.2.0 in
            let may : MaySend sizes w number link =
            subst (λ x. MaySend sizes w number x) (sym one.1) (subst (λ n. MaySend sizes w n e.1) (sym one.0) e.2.1) in
            let this : may.piece ≡ (shard, piece) = same_Some may.piece (shard, piece) (sym may.next ∙ o.0) in
            let to : may.piece.0 ≡ shard = ap (λ (p : ℕ × Piece). p.0) this in
            let room : sent_to sizes shard link < ran w number shard + sizes.ring =
            subst (λ t. sent_to sizes t link < ran w number t + sizes.ring) to may.room in
            absurd (omega (arith, room, full, count))),
        refl,
      ),
      inside sizes w old new c number link place after world finds at set same
          (record { lent = false; accepted = s.accepted; is = o.1; fits = s.fits }) connections log kept.now,
    )

-- a place that was written twice
pub set_twice : {X : Type 0} (xs : List X) (i : ℕ) (x y : X) → slice_set (slice_set xs i x) i y ≡ slice_set xs i y
set_twice [] i x y = refl
set_twice (z ∷ xs) zero x y = refl
set_twice (z ∷ xs) (suc i) x y = ap (λ zs. z ∷ zs) (set_twice xs i x y)

-- A piece that was taken out and put back.
pub put_back : (conn mid mid' after : Conn) (shard : ℕ) (piece back : Piece)
    → ((flow : Flow) → IsConn conn flow → (slice_get (all_pieces flow) flow.out ≡ Some (shard, piece))
    × IsConn mid (record flow { out = flow.out + 1; lent = true })) →
    mid' ≡ mid → back ≡ piece →
    ((flow : Flow) (before : ℕ) → IsConn mid' flow → IsTrue flow.lent → flow.out ≡ before + 1
    → slice_get (all_pieces flow) before ≡ Some (shard, back)
    → IsConn after (record flow { out = before; lent = false })) →
    (flow : Flow) → IsConn conn flow → (slice_get (all_pieces flow) flow.out ≡ Some (shard, piece))
    × IsConn after (record flow { lent = false })
put_back conn mid mid' after shard piece back next same is putting flow was =
    let n = next flow was in
    let this : slice_get (all_pieces flow) flow.out ≡ Some (shard, back) = n.0
    ∙ ap (λ (p : Piece). Some (shard, p)) (sym is) in (
      n.0,
      putting (record flow { out = flow.out + 1; lent = true }) flow.out
          (subst (λ x. IsConn x (record flow { out = flow.out + 1; lent = true })) (sym same) n.1) refl refl this,
    )

-- A simulator whose rings alone changed inside, with an unchanged world.
pub only_rings : (sizes : Sizes) (w : World) (old new : Sim) → (world : IsWorld sizes old w) → new.seats.items
    ≡ old.seats.items → new.connections.items ≡ old.connections.items → new.log.items ≡ old.log.items
    → AreWired sizes new.rings world.wires → IsWorld sizes new w
only_rings sizes w old new world seats connections log wired = record {
  within = world.within;
  law = world.law;
  seat_count = ap length seats ∙ world.seat_count;
  each_seat = λ c seat here. world.each_seat c seat (ap (λ xs. slice_get xs c) (sym seats) ∙ here);
  seated = world.seated;
  count = ap length connections ∙ world.count;
  keeps = λ k link kept at here. world.keeps k link kept at (ap (λ xs. slice_get xs k) (sym connections) ∙ here);
  log = log ∙ world.log;
  wires = world.wires;
  wired = wired;
  mirrors = world.mirrors;
}

-- The seats are unchanged, and the connection of one changed in what the seat doesn't see.
unseen : (sizes : Sizes) (w : World) (c k : ℕ) (link next : Link) (conn : Conn) (current : Option ℕ) → IsAt w c k link
    → next.seat ≡ link.seat →
    (IsServing sizes (of_asker k w.log) link conn → IsServing sizes (of_asker k w.log) next conn)
    → SeatIs sizes w c conn current → SeatIs sizes (with_link w k next) c conn current
unseen sizes w c k link next conn None at seat serves is = absurd (is.0 k link at.here at.seat_is)
unseen sizes w c k link next conn (Some j) at seat serves is =
    let one = one_at w c k j link is.0 at is.1 in
    let here : IsServing sizes (of_asker k w.log) link conn =
    subst (λ x. IsServing sizes (of_asker k w.log) x conn) (sym one.1)
    (subst (λ n. IsServing sizes (of_asker n w.log) is.0 conn) (sym one.0) is.2) in (
      next,
      subst (λ n. IsAt (with_link w k next) c n next) one.0 (at_same w c k link next at seat),
      subst (λ n. IsServing sizes (of_asker n w.log) next conn) one.0 (serves here),
    )

-- how many replies wait on a ring
pub replies_wait : (sizes : Sizes) (w : World) (old : Sim) (c k : ℕ) (link : Link) (s : ℕ)
    → (world : IsWorld sizes old w) → IsAt w c k link → link.received s + length (world.wires.replies c s)
    ≡ link.given s
replies_wait sizes w old c k link s world at =
    let own = world.law.links k link at.here in
    let rs = replies_in (on_shard s (of_asker k w.log)) in
    let given = own.given s in
    let received = own.received s in
    let long = length-map (on_shard s (of_asker k w.log)) reply_to in
    let taken = length-take-le (link.given s) rs (omega (arith, given, long)) in
    ap (λ ps. link.received s + length ps) (world.mirrors.channels c k link at s).1
    ∙ (length_drop (link.received s) (take (link.given s) rs) (omega (arith, taken, received)) ∙ taken)

-- A count to which one was added for a shard is greater by one for that shard.
pub more_here : (counts : ℕ → ℕ) (shard t : ℕ) → t ≡ shard → one_more counts shard t ≡ counts t + 1
more_here counts shard t same = ap (λ b. cond b (counts t + 1) (counts t)) (eq-eqb t shard same)

-- A count that grew for one shard is unchanged for every other one.
pub more_not : (counts : ℕ → ℕ) (shard t : ℕ) → t ≢ shard → one_more counts shard t ≡ counts t
more_not counts shard t other = ap (λ b. cond b (counts t + 1) (counts t)) (ne_eqb t shard other)

-- The reply in a hand was given.
pub gives : (old new : Sim) (shard : ℕ)
    → ((sizes : Sizes) (wires : Wires) → AreWired sizes old.rings wires → GivesReply sizes wires shard new.rings)
    → new.seats.items ≡ old.seats.items → new.connections.items ≡ old.connections.items → new.log.items ≡ old.log.items
    → StepsByEvent old (Give shard) replied.Done new
unfolding Stands
gives old new shard give seats connections log sizes w world =
    let g = give sizes world.wires world.wired in
    let c = g.seat in
    let reply = g.reply in
    let h : IsHolding w shard c reply = subst (λ o. HandIs w shard o) g.held (world.mirrors.hands shard g.there.1) in
    let k = h.number in
    let link = h.link in
    let at = h.at in
    let ungiven = h.ungiven in
    let own = world.law.links k link at.here in
    let count = replies_wait sizes w old c k link shard world at in
    let room = g.room in
    let next : Link = record link { given = one_more link.given shard } in
    let w' = with_link w k next in
    let happens : Happens sizes w (Give shard) Done w' =
    (k, link, (at.here, ungiven, omega (arith, count, room)), refl) in
    let law = event_kept sizes w (Give shard) Done w' world.within.shards.0 happens world.law in
    let rs : ℕ → List Shown = λ t. replies_in (on_shard t (of_asker k w.log)) in
    let old_replies = world.wires.replies in
    let now_replies = with_channel old_replies c shard (old_replies c shard ++ reply ∷ []) in
    let wait = world.mirrors.channels c k link at in
    let mine : (t : ℕ) → now_replies c t ≡ unreceived w k t next = λ t. elim (cases_eq t shard) [
      | inl here ↦
          let given = own.given t in
          let received = own.received t in
          let long = length-map (on_shard t (of_asker k w.log)) reply_to in
          let taken = length-take-le (link.given t) (rs t) (omega (arith, given, long)) in
          let this : slice_get (rs t) (link.given t) ≡ Some reply =
          subst (λ e. slice_get (rs e) (link.given e) ≡ Some reply) (sym here) h.reply_is in
          with_here old_replies c shard t (old_replies c shard ++ reply ∷ []) here
          ∙ (ap (λ e. old_replies c e ++ reply ∷ []) (sym here)
          ∙ (ap (λ xs. xs ++ reply ∷ []) (wait t).1
          ∙ (sym (drop-append-le (link.received t) (take (link.given t) (rs t)) (reply ∷ [])
          (omega (arith, taken, received)))
          ∙ (ap (λ xs. drop (link.received t) xs) (sym (take_next (link.given t) (rs t) reply this))
          ∙ ap (λ n. drop (link.received t) (take n (rs t))) (sym (more_here link.given shard t here))))))
      | inr other ↦
          with_not old_replies c shard t (old_replies c shard ++ reply ∷ []) other
          ∙ ((wait t).1 ∙ ap (λ n. drop (link.received t) (take n (rs t))) (sym (more_not link.given shard t other)))
    ] in
    let empty : (t : ℕ) → t ≡ shard → IsEmptyHand w' t =
    λ t same j one at_j. elim (set_cases w.links k next j one at_j) [
      | inl this ↦
          let at_most = world.law.one_ungiven t k link at.here in
          let number = ap (λ n. ran w n t) this.0 in
          let counted = ap (λ (x : Link). x.given t) this.1 ∙ more_here link.given shard t same in
          omega (arith, at_most, number, counted)
      | inr before ↦ elim (cases_lt (one.given t) (ran w j t)) [
        | inl less ↦
            let waits : link.given t < ran w k t = subst (λ e. link.given e < ran w k e) (sym same) ungiven in
            absurd (before.0 (world.law.one_asker t j k one link before.1 at.here less waits))
        | inr all ↦ all
      ]
    ] in
    let hands : (t : ℕ) → t < sizes.shards → HandIs w' t (with_shard world.wires.hand shard None t) =
    λ t below. elim (cases_eq t shard) [
      | inl same ↦ subst (λ o. HandIs w' t o) (sym (shard_here world.wires.hand shard t None same)) (empty t same)
      | inr other ↦ subst (λ o. HandIs w' t o) (sym (shard_not world.wires.hand shard t None other))
          (hand_on w t k link next (world.wires.hand t) at.here refl (more_not link.given shard t other)
          (world.mirrors.hands t below))
    ] in
    let wires' : Wires = record world.wires { replies = now_replies; hand = with_shard world.wires.hand shard None } in
    let mirrors = mirrors_on sizes w world.wires wires' c k link next world.mirrors at refl
    (λ t. ((wait t).0, mine t))
    (λ d t apart. (refl, with_far old_replies c shard d t (old_replies c shard ++ reply ∷ []) apart))
    hands (λ t. refl) in
    let same_serving : (conn : Conn) → IsServing sizes (of_asker k w.log) link conn
    → IsServing sizes (of_asker k w.log) next conn = λ conn s.
    record { lent = s.lent; accepted = s.accepted; is = s.is; fits = s.fits } in (
      w',
      happens,
      world_on sizes w c k link next old new wires' world at refl law
          (record {
            count = ap length seats;
            here =
                λ seat here. unseen sizes w c k link next seat.conn seat.current at refl (same_serving seat.conn)
                (world.each_seat c seat (ap (λ xs. slice_get xs c) (sym seats) ∙ here));
            others = λ d seat apart here. ap (λ xs. slice_get xs d) (sym seats) ∙ here;
          })
          (record {
            count = ap length connections;
            here = λ kept here.
                let was = world.keeps k link kept at.here (ap (λ xs. slice_get xs k) (sym connections) ∙ here) in
                record { seat = was.seat; ended = was.ended; broken = was.broken; fed = was.fed; handed = was.handed };
            others = λ j kept apart here. ap (λ xs. slice_get xs j) (sym connections) ∙ here;
          })
          log g.now mirrors,
    )

-- None was given.
pub gives_none : (old new : Sim) (shard : ℕ)
    → ((sizes : Sizes) (wires : Wires) → AreWired sizes old.rings wires → GivesNone sizes wires shard new.rings)
    → new.seats.items ≡ old.seats.items → new.connections.items ≡ old.connections.items → new.log.items ≡ old.log.items
    → StepsByEvent old (Give shard) replied.Idle new
unfolding Stands
gives_none old new shard give seats connections log sizes w world =
    let g = give sizes world.wires world.wired in (
      w,
      (
        inl (λ e.
            let k = e.0 in
            let link = e.1 in
            let here = e.2.0 in
            let ungiven = e.2.1 in
            let room = e.2.2 in
            let below : shard < sizes.shards = elim (cases_lt shard sizes.shards) [
              | inl less ↦ less
              | inr beyond ↦
                  let within = ran_within sizes (of_asker k w.log) link (world.law.links k link here) shard in
                  let none = ap length (due_beyond sizes.shards shard link.taken world.within.shards.0 beyond) in
                  absurd (omega (arith, within, none, ungiven))
            ] in
            elim (world.wires.hand shard) as (λ o. world.wires.hand shard ≡ o → HandIs w shard o → ⊥) [
              | None ↦ λ is empty. let bound = empty k link here in absurd (omega (arith, bound, ungiven))
              | Some held ↦ λ is h.
                  let number : h.number ≡ k =
                  world.law.one_asker shard h.number k h.link link h.at.here here h.ungiven ungiven in
                  let this : h.link ≡ link = at_once w.links h.number k h.link link h.at.here here number in
                  let given = ap (λ (x : Link). x.given shard) this in
                  let received = ap (λ (x : Link). x.received shard) this in
                  let count = replies_wait sizes w old held.0 h.number h.link shard world h.at in
                  let full = g.full below held.0 held.1 is in
                  absurd (omega (arith, count, full, room, given, received))
            ] refl (world.mirrors.hands shard below)),
        refl,
      ),
      only_rings sizes w old new world seats connections log g.now,
    )

-- the element at an index that was written
pub mid_is : (seats : List Seat) (c : ℕ) (place first mid : Seat) → slice_get seats c ≡ Some place → mid
    ≡ slice_index_or (slice_set seats c first) c mid → mid ≡ first
mid_is seats c place first mid here is =
    let within = slice_get_within seats c place here in
    let long = length-slice_set seats c first in
    at_once (slice_set seats c first) c c mid first
    (get_index (slice_set seats c first) c mid (omega (arith, within, long)) is) (get-set_same seats c place first here)
    refl
