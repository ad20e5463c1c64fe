-- Bytes that came in lead a core on.
use Rattle.std.proofs.Common.{◌≡◌, ℕ, ◌+◌, ◌<◌, ◌≤◌, inl, inr, true, false, Some, List, [], ◌∷◌, ◌++◌, length, take}
use Rattle.std.proofs.Common.{refl, sym, ap, ◌∙◌, subst, arith, slice_set, append-nil, length-append}
use Rattle.std.specs.List.{slice_get}
use Rattle.std.proofs.lemmas.List.{length-map}
use Rattle.std.proofs.Math.Seq.{take-append-add}
use Rattle.mc_sizes.specs.declared.sizes.Sizes.{Sizes}
use Rattle.mc_reader.specs.Spelling.{is_closed}
use Rattle.mc_reader.proofs.Fronts.{commands_begin}
use Rattle.mc_reader.specs.Spelling.{AreCommands, BeginCommands}
use Rattle.mc_conn.specs.declared.conn.Conn.{Conn}
use Rattle.mc_conn.specs.declared.conn.Taken.{Taken as Took}
use Rattle.mc_conn.specs.declared.conn.Taken.TheVariants as took
use Rattle.mc_conn.specs.History.{Taken}
use Rattle.mc_conn.specs.Conn.{IsAwaiting, IsConn, TakeSays}
use Rattle.mc_conn.specs.Flow.{IsAllTaken, IsOpen, IsOver, IsShut, IsUsedUp, Flow, commands_of}
use Rattle.mc_model.specs.declared.event.StepReply.{StepReply}
use Rattle.mc_model.specs.declared.event.StepReply.TheVariants as replied
use Rattle.mc_sim.specs.declared.sim.Connection.{Connection}
use Rattle.mc_sim.specs.declared.sim.Seat.{Seat}
use Rattle.mc_sim.specs.declared.sim.Sim.{Sim}
use Rattle.mc_model.specs.Log.{of_asker}
use Rattle.mc_sim.specs.Rings.{AreWired}
use Rattle.mc_model.specs.World.{IsAt, IsLink, Link, World, with_link}
use Rattle.mc_model.specs.Events.{MayFeed}
use Rattle.mc_model.specs.Events.Event.{Feed}
use Rattle.mc_model.specs.Schedule.{Happens}
use Rattle.mc_model.specs.declared.event.StepReply.TheVariants.{Done}
use Rattle.mc_sim.specs.Feeding.{FeedsInto, MayTake, Refreshed, TakesBytes}
use Rattle.mc_sim.specs.Stands.{IsServing, IsWorld, KeepsLink, SeatIs, Stands, StepsByEvent, flow_of}
use Rattle.mc_model.proofs.Every.{event_kept}
use Rattle.mc_sim.proofs.Changing.{one_at}
use Rattle.std.proofs.lemmas.Bool.{cases_eq}
use Rattle.mc_model.proofs.Lists.{at_once}
use Rattle.mc_sim.proofs.Standing.{KeptBut, SeatsBut, found, kept_set, seats_set}
use Rattle.mc_sim.proofs.AtSeat.{Differs, Finds, IsSame, seat_stays, world_stays}
use Rattle.mc_reply.specs.declared.server_stats.ServerStats.{ServerStats}

one_more_than_all : (flow : Flow) (one : Taken) → IsAllTaken flow
    → BeginCommands flow.rules flow.fed (commands_of (flow.taken ++ one ∷ [])) → ⊥
one_more_than_all flow one all next =
    let begun = commands_begin flow.rules flow.fed [] (commands_of (flow.taken ++ one ∷ [])) (commands_of flow.taken)
    next (subst (λ bytes. AreCommands flow.rules bytes (commands_of flow.taken)) (sym (append-nil flow.fed)) all) in
    let long = ap length begun.1 in
    let whole = length-map (flow.taken ++ one ∷ []) (λ (t : Taken). t.entry) in
    let part = length-map flow.taken (λ (t : Taken). t.entry) in
    absurd (omega (
      arith,
      long,
      whole,
      part,
      length-append (commands_of (flow.taken ++ one ∷ [])) begun.0,
      length-append flow.taken (one ∷ []),
    ))

shut_of : (flow : Flow) → IsOpen flow → IsOver flow → IsShut flow
shut_of flow is (inl broken) = absurd (let e : true ≡ false = sym broken ∙ is.whole in cc)
shut_of flow is (inr (inl shut)) = shut
shut_of flow is (inr (inr done)) = absurd (let e : true ≡ false = sym done.0 ∙ is.comes in cc)

-- The state of a connection after `take` found no command.
pub asked : (may_show : ServerStats → Type 0) (old new : Conn) (moment : ℕ) (result : Took)
    → TakeSays old moment may_show result new → (flow : Flow) → IsConn old flow → IsAllTaken flow → Refreshed flow new
asked may_show old new moment (took.Opened ticket) says flow is all = let o =
    says flow is in absurd (one_more_than_all flow o.one all o.next)
asked may_show old new moment took.NeedMore says flow is all = let n =
    says flow is in record { now = n.now; waits = λ unset every place. inr n.waits }
asked may_show old new moment took.Full says flow is all = let n =
    says flow is in record {
      now = n.now;
      waits = λ unset every place. absurd (let full = n.full in omega (arith, full, place));
    }
asked may_show old new moment took.Closed says flow is all = let n =
    says flow is in record { now = n.1; waits = λ unset every place. inl (shut_of flow unset n.0) }

-- all of a piece is taken where all before it is used up, whether or not more commands come
pub takes_bytes : (old new : Conn) (flow : Flow) (bytes : List ℕ) (count : ℕ) → IsOpen flow → Refreshed flow old
    → count ≤ length bytes → IsConn new (record flow { fed = flow.fed ++ take count bytes }) →
    (IsAllTaken flow → IsAwaiting old → 0 < length bytes → 0 < count)
    → (IsUsedUp flow → length bytes ≤ flow.rules.line_limit → count ≡ length bytes)
    → (IsShut flow → count ≡ length bytes) → TakesBytes flow bytes count new
takes_bytes old new flow bytes count unset ready within now progress whole shut = record {
  within = within;
  now = now;
  whole =
      λ used short. elim (is_closed (commands_of flow.taken)) as
      (λ b. is_closed (commands_of flow.taken) ≡ b → count ≡ length bytes) [
        | true ↦ λ closed. shut closed
        | false ↦ λ goes_on. whole (record { used = used; goes_on = goes_on }) short
      ] refl;
  some = λ all place filled. elim (ready.waits unset all place) [
    | inl closed ↦ let every = shut closed in omega (arith, every, filled)
    | inr waits ↦ progress all waits filled
  ];
}

-- Bytes were taken.
pub feeds : (old new : Sim) (c number : ℕ) (bytes : List ℕ) (count : ℕ) (place after : Seat) (kept kept' : Connection)
    → Finds old c number place → slice_get old.connections.items number ≡ Some kept → kept.ended ≡ false → kept.broken
    ≡ false → 0 < length bytes → 0 < count →
    ((flow : Flow) → IsConn place.conn flow → IsOpen flow → TakesBytes flow bytes count after.conn) → after.current
    ≡ place.current → Differs old new c after →
    new.connections.items ≡ slice_set old.connections.items number kept' → kept'.seat ≡ kept.seat → kept'.ended
    ≡ kept.ended → kept'.broken ≡ kept.broken → kept'.fed.items ≡ kept.fed.items ++ take count bytes → kept'.handed
    ≡ kept.handed →
    StepsByEvent old (Feed c bytes) replied.Done new
unfolding Stands
feeds old new c number bytes count place after kept kept' finds at_kept comes whole filled some conn same differs
    connections seat ended broken fed handed sizes w world =
    let f = found sizes w old c number place world finds.here finds.current in
    let link = f.0 in
    let at = f.1 in
    let s = f.2 in
    let h = world.keeps number link kept at.here at_kept in
    let t = conn (flow_of sizes link s.lent s.accepted) s.is
    (record { comes = sym h.ended ∙ comes; whole = sym h.broken ∙ whole }) in
    let next : Link = record link { fed = link.fed ++ take count bytes } in
    let w' = with_link w number next in
    let may : MayFeed sizes link bytes count = record { within = t.within; whole = t.whole; some = t.some } in
    let happens : Happens sizes w (Feed c bytes) Done w' =
    (number, link, (at, sym h.ended ∙ comes, sym h.broken ∙ whole, filled), (count, may, some, refl)) in
    let law = event_kept sizes w (Feed c bytes) Done w' world.within.shards.0 happens world.law in
    let serving : IsServing sizes (of_asker number w.log) next after.conn =
    record { lent = s.lent; accepted = s.accepted; is = t.now; fits = s.fits } in
    let keeps : KeepsLink sizes w' number next kept' = record {
      seat = seat ∙ h.seat;
      ended = ended ∙ h.ended;
      broken = broken ∙ h.broken;
      fed = fed ∙ ap (λ xs. xs ++ take count bytes) h.fed;
      handed = ap (λ v. v.items) handed ∙ h.handed;
    } in (
      w',
      happens,
      seat_stays sizes w old new c number link next place after world finds at refl law differs same serving
          (kept_set sizes w' number next old.connections.items new.connections.items kept kept' at_kept connections
          keeps)
          (λ u. refl) refl refl,
    )

-- A core that changed inside at one seat, and in how it keeps what it keeps.
pub world_again : (sizes : Sizes) (w : World) (c k : ℕ) (link : Link) (old new : Sim) → (world : IsWorld sizes old w)
    → IsLink w k link → SeatsBut sizes w c old.seats.items new.seats.items
    → KeptBut sizes w k link old.connections.items new.connections.items → new.log.items ≡ old.log.items
    → AreWired sizes new.rings world.wires → IsWorld sizes new w
world_again sizes w c k link old new world here seats connections log wired = record {
  within = world.within;
  law = world.law;
  seat_count = seats.count ∙ world.seat_count;
  each_seat = λ d seat found_d. elim (cases_eq d c) [
    | inl this ↦ subst (λ e. SeatIs sizes w e seat.conn seat.current) (sym this)
        (seats.here seat (ap (λ e. slice_get new.seats.items e) (sym this) ∙ found_d))
    | inr apart ↦ world.each_seat d seat (seats.others d seat apart found_d)
  ];
  seated = world.seated;
  count = connections.count ∙ world.count;
  keeps = λ j one kept at_j found_j. elim (cases_eq j k) [
    | inl this ↦
        let same : link ≡ one = at_once w.links k j link one here at_j (sym this) in
        let mine : KeepsLink sizes w k link kept =
        connections.here kept (ap (λ n. slice_get new.connections.items n) (sym this) ∙ found_j) in
        subst (λ x. KeepsLink sizes w j x kept) same (subst (λ n. KeepsLink sizes w n link kept) (sym this) mine)
    | inr apart ↦ world.keeps j one kept at_j (connections.others j kept apart found_j)
  ];
  log = log ∙ world.log;
  wires = world.wires;
  wired = wired;
  mirrors = world.mirrors;
}

-- what a feed leaves: the seat's connection, and what is kept of it
pub record Fed (old new : Sim) (c number : ℕ) (after : Seat) (kept kept' : Connection) (fed : List ℕ) : Type 0 where
  pub differs : Differs old new c after
  pub connections : new.connections.items ≡ slice_set old.connections.items number kept'
  pub seat : kept'.seat ≡ kept.seat
  pub ended : kept'.ended ≡ kept.ended
  pub broken : kept'.broken ≡ kept.broken
  pub fed_is : kept'.fed.items ≡ fed
  pub handed : kept'.handed ≡ kept.handed

-- No byte was taken, or there was no memory: the lists stay.
feeds_none : (sizes : Sizes) (w : World) (old new : Sim) (c number : ℕ) (place after : Seat) (kept kept' : Connection)
    → (world : IsWorld sizes old w) → Finds old c number place → slice_get old.connections.items number ≡ Some kept
    → (link : Link) → IsAt w c number link →
    IsServing sizes (of_asker number w.log) link after.conn → after.current ≡ place.current
    → Fed old new c number after kept kept' kept.fed.items → IsWorld sizes new w
feeds_none sizes w old new c number place after kept kept' world finds at_kept link at serving same fed =
    let h = world.keeps number link kept at.here at_kept in
    let is : SeatIs sizes w c after.conn after.current =
    subst (λ o. SeatIs sizes w c after.conn o) (sym (same ∙ finds.current)) (link, at, serving) in
    let keeps : KeepsLink sizes w number link kept' =
    record {
      seat = fed.seat ∙ h.seat;
      ended = fed.ended ∙ h.ended;
      broken = fed.broken ∙ h.broken;
      fed = fed.fed_is ∙ h.fed;
      handed = ap (λ v. v.items) fed.handed ∙ h.handed;
    } in
    world_again sizes w c number link old new world at.here
    (seats_set sizes w c old.seats.items new.seats.items place after finds.here fed.differs.seats is)
    (kept_set sizes w number link old.connections.items new.connections.items kept kept' at_kept fed.connections keeps)
    fed.differs.log
    (subst (λ rings. AreWired sizes rings world.wires) (sym fed.differs.rings) world.wired)

-- However it is answered, a feed leads the core on.
pub feeds_into : (old new : Sim) (c number : ℕ) (bytes : List ℕ) (reply : StepReply) (place after : Seat)
    (kept kept' : Connection) → Finds old c number place → slice_get old.connections.items number ≡ Some kept
    → MayTake kept bytes →
    FeedsInto place.conn kept.fed.items bytes reply after.conn kept'.fed.items → after.current ≡ place.current
    → Fed old new c number after kept kept' kept'.fed.items → StepsByEvent old (Feed c bytes) reply new
unfolding Stands
feeds_into old new c number bytes replied.Done place after kept kept' finds at_kept may into same fed sizes w world =
    feeds old new c number bytes into.0 place after kept kept' finds at_kept may.0 may.1 may.2 into.1 into.3 same
    fed.differs fed.connections fed.seat fed.ended fed.broken into.2 fed.handed sizes w world
feeds_into old new c number bytes replied.Idle place after kept kept' finds at_kept may into same fed sizes w world =
    let f = found sizes w old c number place world finds.here finds.current in
    let link = f.0 in
    let at = f.1 in
    let s = f.2 in
    let h = world.keeps number link kept at.here at_kept in
    let t = into.1 (flow_of sizes link s.lent s.accepted) s.is
    (record { comes = sym h.ended ∙ may.0; whole = sym h.broken ∙ may.1 }) in
    let is : IsConn after.conn (flow_of sizes link s.lent s.accepted) =
    subst (λ xs. IsConn after.conn (record (flow_of sizes link s.lent s.accepted) { fed = xs })) (append-nil link.fed)
    t.now in (
      w,
      (inr (number, link, at, record { within = t.within; whole = t.whole; some = t.some }), refl),
      feeds_none sizes w old new c number place after kept kept' world finds at_kept link
          at (record { lent = s.lent; accepted = s.accepted; is = is; fits = s.fits }) same
          (record {
            differs = fed.differs;
            connections = fed.connections;
            seat = fed.seat;
            ended = fed.ended;
            broken = fed.broken;
            fed_is = into.0;
            handed = fed.handed;
          }),
    )
feeds_into old new c number bytes replied.NoMemory place after kept kept' finds at_kept may into same fed sizes w world
    =
    let f = found sizes w old c number place world finds.here finds.current in
    let link = f.0 in
    let at = f.1 in
    let s = f.2 in
    let h = world.keeps number link kept at.here at_kept in
    let is : IsConn after.conn (flow_of sizes link s.lent s.accepted) =
    subst (λ x. IsConn x (flow_of sizes link s.lent s.accepted)) (sym into.1) s.is in (
      w,
      ((tt, (number, link, (at, sym h.ended ∙ may.0, sym h.broken ∙ may.1, may.2))), refl),
      feeds_none sizes w old new c number place after kept kept' world finds at_kept link
          at (record { lent = s.lent; accepted = s.accepted; is = is; fits = s.fits }) same
          (record {
            differs = fed.differs;
            connections = fed.connections;
            seat = fed.seat;
            ended = fed.ended;
            broken = fed.broken;
            fed_is = into.0;
            handed = fed.handed;
          }),
    )

-- The connection is ended or broken, or there are no bytes.
pub feeds_not : (old new : Sim) (c number : ℕ) (bytes : List ℕ)
    (f : (x : Seat) × (slice_get old.seats.items c ≡ Some x) × (x.current ≡ Some number)) (kept : Connection)
    → slice_get old.connections.items number ≡ Some kept → ¬ MayTake kept bytes → IsSame old new
    → StepsByEvent old (Feed c bytes) replied.Idle new
unfolding Stands
feeds_not old new c number bytes f kept at_kept not same sizes w world =
    let g = found sizes w old c number f.0 world f.1 f.2 in
    let h = world.keeps number g.0 kept g.1.here at_kept in (
      w,
      (
        inl (λ e.
            let one = one_at w c number e.0 g.0 e.1 g.1 e.2.0 in
            not (
              h.ended ∙ (ap (λ (x : Link). x.ended) one.1 ∙ e.2.1),
              h.broken ∙ (ap (λ (x : Link). x.broken) one.1 ∙ e.2.2),
              e.2.3,
            )),
        refl,
      ),
      world_stays sizes w old new world same,
    )

-- what is left of a list that was lengthened, and cut
pub front_of : (old now all bytes : List ℕ) (before count : ℕ) → before ≡ length old → all ≡ old ++ bytes → now
    ≡ take (before + count) all → now ≡ old ++ take count bytes
front_of old now all bytes before count at is cut =
    cut ∙ (ap (λ xs. take (before + count) xs) is
    ∙ (ap (λ n. take (n + count) (old ++ bytes)) at ∙ take-append-add old bytes count))
