-- The events of a connection lead a core on: end, break and take.
use Rattle.std.proofs.Common.{◌≡◌, ℕ, zero, suc, ◌+◌, ◌<◌, ◌≤◌, inl, inr, Bool, true, false, Some, None, List, [], ◌∷◌}
use Rattle.std.proofs.Common.{◌++◌, length, take, drop, refl, sym, ap, ◌∙◌, subst, arith, slice_set, slice_index_or}
use Rattle.std.proofs.Common.{append-nil, length-append}
use Rattle.std.specs.Prelude.{IsTrue}
use Rattle.std.specs.List.{concat, slice_get}
use Rattle.std.proofs.lemmas.Bool.{cases_eq}
use Rattle.std.proofs.lemmas.List.{map-append, take-append-le}
use Rattle.std.proofs.lemmas.Option.{slice_get_within}
use Rattle.mc_command.specs.declared.command.Command.{Command}
use Rattle.mc_sizes.specs.Sizes.{rules_of}
use Rattle.mc_sizes.specs.declared.sizes.Sizes.{Sizes}
use Rattle.mc_reader.specs.Spelling.{is_closed}
use Rattle.mc_reader.proofs.Fronts.{commands_begin, last_of}
use Rattle.mc_ring.specs.Reply.{Shown}
use Rattle.mc_reply.specs.declared.ticket.Ticket.{Ticket}
use Rattle.mc_join.specs.Replies.{replies}
use Rattle.mc_conn.specs.Conn.{FillsWindow, IsConn, NeedsMore, TakesCommand}
use Rattle.mc_conn.specs.Flow.{IsOver, Flow}
use Rattle.mc_conn.specs.History.{Taken}
use Rattle.mc_conn.specs.Due.{pending_replies_from, pending_replies_of, channel, pieces, pieces_from}
use Rattle.mc_conn.proofs.Fitting.{fits_take, pieces_from-append}
use Rattle.mc_model.specs.declared.event.StepReply.TheVariants as replied
use Rattle.mc_sim.specs.declared.sim.Connection.{Connection}
use Rattle.mc_sim.specs.declared.sim.Seat.{Seat}
use Rattle.mc_sim.specs.declared.sim.Sim.{Sim}
use Rattle.mc_model.specs.Log.{of_asker, replies_in}
use Rattle.mc_model.specs.Sized.{SpellAll, SpellFirst}
use Rattle.mc_model.specs.World.{IsAt, Link, World, entries, ran, with_link}
use Rattle.mc_model.specs.Rest.{HasWindow, IsAllTaken, IsNextCommand}
use Rattle.mc_model.specs.Events.Event.{Take, End, Break}
use Rattle.mc_model.specs.Schedule.{Happens}
use Rattle.mc_model.specs.declared.event.StepReply.TheVariants.{Done}
use Rattle.mc_model.specs.Headline.{handed_bytes}
use Rattle.mc_model.specs.Law.{Law, LinkLaw}
use Rattle.mc_sim.specs.Rings.{AreWired}
use Rattle.mc_sim.specs.Stands.{IsServing, IsWorld, KeepsLink, SeatIs, Stands, StepsByEvent, received_by, flow_of}
use Rattle.mc_sim.specs.Stands.{unrun}
use Rattle.mc_model.proofs.Every.{event_kept}
use Rattle.mc_model.proofs.Lists.{at_once}
use Rattle.mc_model.proofs.Follows.{are_replies}
use Rattle.mc_model.proofs.Growing.{pending_replies-append, replies_stay}
use Rattle.mc_sim.proofs.Changing.{at_same, mirrors_stay, one_at}
use Rattle.mc_sim.proofs.Standing.{KeptBut, found, kept_same, kept_set, seats_set, world_on}
use Rattle.mc_ring.proofs.Lists.{get_below}
use Rattle.mc_reply.specs.declared.server_stats.ServerStats.{ServerStats}

-- What an event finds at a seat: its place, and the number of its connection.
pub record Finds (sim : Sim) (c number : ℕ) (place : Seat) : Type 0 where
  pub here : slice_get sim.seats.items c ≡ Some place
  pub current : place.current ≡ Some number

-- A simulator that differs at one seat, and in the history of its connection; its rings and its log are
-- unchanged.
pub record Differs (old new : Sim) (c : ℕ) (after : Seat) : Type 0 where
  pub seats : new.seats.items ≡ slice_set old.seats.items c after
  pub log : new.log.items ≡ old.log.items
  pub rings : new.rings ≡ old.rings

-- A simulator that differs at one seat is in the world with the change of its connection, if three
-- things hold. The law still does; seat and connection show the change; nothing was sent or
-- received.
pub seat_stays : (sizes : Sizes) (w : World) (old new : Sim) (c number : ℕ) (link next : Link) (place after : Seat)
    → IsWorld sizes old w → Finds old c number place → IsAt w c number link → next.seat ≡ link.seat →
    Law sizes (with_link w number next) → Differs old new c after → after.current ≡ place.current
    → IsServing sizes (of_asker number w.log) next after.conn →
    KeptBut sizes (with_link w number next) number next old.connections.items new.connections.items →
    ((s : ℕ) → unrun sizes w number s link ≡ unrun sizes w number s next) → next.given ≡ link.given → next.received
    ≡ link.received → IsWorld sizes new (with_link w number next)
seat_stays sizes w old new c number link next place after world finds at seat law differs same serving kept sent given
    received =
    let w' = with_link w number next in
    let is : SeatIs sizes w' c after.conn after.current =
    subst (λ o. SeatIs sizes w' c after.conn o) (sym (same ∙ finds.current))
    (next, at_same w c number link next at seat, serving) in
    world_on sizes w c number link next old new world.wires world at seat law
    (seats_set sizes w' c old.seats.items new.seats.items place after finds.here differs.seats is)
    kept differs.log
    (subst (λ rings. AreWired sizes rings world.wires) (sym differs.rings) world.wired)
    (mirrors_stay sizes w world.wires c number link next world.mirrors at seat sent given received)

-- A simulator whose seats, connections, log and rings are unchanged is in the same world.
pub record IsSame (old new : Sim) : Type 0 where
  pub seats : new.seats.items ≡ old.seats.items
  pub connections : new.connections.items ≡ old.connections.items
  pub log : new.log.items ≡ old.log.items
  pub rings : new.rings ≡ old.rings

-- A simulator whose seats, connections, log and rings are unchanged stays in its world.
pub world_stays : (sizes : Sizes) (w : World) (old new : Sim) → IsWorld sizes old w → IsSame old new
    → IsWorld sizes new w
world_stays sizes w old new world same = record {
  within = world.within;
  law = world.law;
  seat_count = ap length same.seats ∙ world.seat_count;
  each_seat = λ c seat here. world.each_seat c seat (ap (λ xs. slice_get xs c) (sym same.seats) ∙ here);
  seated = world.seated;
  count = ap length same.connections ∙ world.count;
  keeps = λ k link kept at here. world.keeps k link kept at (ap (λ xs. slice_get xs k) (sym same.connections) ∙ here);
  log = same.log ∙ world.log;
  wires = world.wires;
  wired = subst (λ rings. AreWired sizes rings world.wires) (sym same.rings) world.wired;
  mirrors = world.mirrors;
}

-- The connection ends.
pub ends : (old new : Sim) (c number : ℕ) (place after : Seat) (kept : Connection) → Finds old c number place
    → slice_get old.connections.items number ≡ Some kept → kept.ended ≡ false →
    ((flow : Flow) → IsConn place.conn flow → IsConn after.conn (record flow { ended = true })) → after.current
    ≡ place.current → Differs old new c after →
    new.connections.items ≡ slice_set old.connections.items number (record kept { ended = true })
    → StepsByEvent old (End c) replied.Done new
unfolding Stands
ends old new c number place after kept finds at_kept unset conn same differs connections sizes w world =
    let f = found sizes w old c number place world finds.here finds.current in
    let link = f.0 in
    let at = f.1 in
    let s = f.2 in
    let next : Link = record link { ended = true } in
    let h = world.keeps number link kept at.here at_kept in
    let happens : Happens sizes w (End c) Done (with_link w number next) =
    (number, link, (at, sym h.ended ∙ unset), refl) in
    let law = event_kept sizes w (End c) Done (with_link w number next) world.within.shards.0 happens world.law in
    let serving : IsServing sizes (of_asker number w.log) next after.conn =
    record {
      lent = s.lent;
      accepted = s.accepted;
      is = conn (flow_of sizes link s.lent s.accepted) s.is;
      fits = s.fits;
    } in
    let keeps : KeepsLink sizes (with_link w number next) number next (record kept { ended = true }) =
    record { seat = h.seat; ended = refl; broken = h.broken; fed = h.fed; handed = h.handed } in (
      with_link w number next,
      happens,
      seat_stays sizes w old new c number link next place after world finds at refl law differs same serving
          (kept_set sizes (with_link w number next) number next old.connections.items new.connections.items kept
          (record kept { ended = true }) at_kept connections keeps)
          (λ t. refl) refl refl,
    )

-- It had ended before.
pub ended_before : (old new : Sim) (c number : ℕ) (place : Seat) (kept : Connection) → Finds old c number place
    → slice_get old.connections.items number ≡ Some kept → kept.ended ≡ true → IsSame old new
    → StepsByEvent old (End c) replied.Idle new
unfolding Stands
ended_before old new c number place kept finds at_kept ended same sizes w world =
    let f = found sizes w old c number place world finds.here finds.current in
    let h = world.keeps number f.0 kept f.1.here at_kept in (
      w,
      (
        inl (λ e.
            let one = one_at w c number e.0 f.0 e.1 f.1 e.2.0 in
            let unset : f.0.ended ≡ false = ap (λ (x : Link). x.ended) one.1 ∙ e.2.1 in
            absurd (let a : true ≡ false = sym ended ∙ (h.ended ∙ unset) in cc)),
        refl,
      ),
      world_stays sizes w old new world same,
    )

-- The connection breaks.
pub breaks : (old new : Sim) (c number : ℕ) (place after : Seat) (kept : Connection) → Finds old c number place
    → slice_get old.connections.items number ≡ Some kept → kept.broken ≡ false →
    ((flow : Flow) → IsConn place.conn flow → IsConn after.conn (record flow { broken = true })) → after.current
    ≡ place.current → Differs old new c after →
    new.connections.items ≡ slice_set old.connections.items number (record kept { broken = true })
    → StepsByEvent old (Break c) replied.Done new
unfolding Stands
breaks old new c number place after kept finds at_kept unset conn same differs connections sizes w world =
    let f = found sizes w old c number place world finds.here finds.current in
    let link = f.0 in
    let at = f.1 in
    let s = f.2 in
    let next : Link = record link { broken = true } in
    let h = world.keeps number link kept at.here at_kept in
    let happens : Happens sizes w (Break c) Done (with_link w number next) =
    (number, link, (at, sym h.broken ∙ unset), refl) in
    let law = event_kept sizes w (Break c) Done (with_link w number next) world.within.shards.0 happens world.law in
    let serving : IsServing sizes (of_asker number w.log) next after.conn =
    record {
      lent = s.lent;
      accepted = s.accepted;
      is = conn (flow_of sizes link s.lent s.accepted) s.is;
      fits = s.fits;
    } in
    let keeps : KeepsLink sizes (with_link w number next) number next (record kept { broken = true }) =
    record { seat = h.seat; ended = h.ended; broken = refl; fed = h.fed; handed = h.handed } in (
      with_link w number next,
      happens,
      seat_stays sizes w old new c number link next place after world finds at refl law differs same serving
          (kept_set sizes (with_link w number next) number next old.connections.items new.connections.items kept
          (record kept { broken = true }) at_kept connections keeps)
          (λ t. refl) refl refl,
    )

-- It was broken before.
pub broken_before : (old new : Sim) (c number : ℕ) (place : Seat) (kept : Connection) → Finds old c number place
    → slice_get old.connections.items number ≡ Some kept → kept.broken ≡ true → IsSame old new
    → StepsByEvent old (Break c) replied.Idle new
unfolding Stands
broken_before old new c number place kept finds at_kept broken same sizes w world =
    let f = found sizes w old c number place world finds.here finds.current in
    let h = world.keeps number f.0 kept f.1.here at_kept in (
      w,
      (
        inl (λ e.
            let one = one_at w c number e.0 f.0 e.1 f.1 e.2.0 in
            let unset : f.0.broken ≡ false = ap (λ (x : Link). x.broken) one.1 ∙ e.2.1 in
            absurd (let a : true ≡ false = sym broken ∙ (h.broken ∙ unset) in cc)),
        refl,
      ),
      world_stays sizes w old new world same,
    )

-- A simulator whose seat changed inside, with a connection that is unchanged by all lists.
pub seat_again : (sizes : Sizes) (w : World) (old new : Sim) (c number : ℕ) (link : Link) (place after : Seat)
    → IsWorld sizes old w → Finds old c number place → IsAt w c number link → Differs old new c after → after.current
    ≡ place.current →
    IsServing sizes (of_asker number w.log) link after.conn → new.connections.items ≡ old.connections.items
    → IsWorld sizes new w
seat_again sizes w old new c number link place after world finds at differs same serving connections =
    let is : SeatIs sizes w c after.conn after.current =
    subst (λ o. SeatIs sizes w c after.conn o) (sym (same ∙ finds.current)) (link, at, serving) in
    let seats = seats_set sizes w c old.seats.items new.seats.items place after finds.here differs.seats is in
    record {
      within = world.within;
      law = world.law;
      seat_count = seats.count ∙ world.seat_count;
      each_seat = λ d seat here. elim (cases_eq d c) [
        | inl this ↦ subst (λ e. SeatIs sizes w e seat.conn seat.current) (sym this)
            (seats.here seat (ap (λ e. slice_get new.seats.items e) (sym this) ∙ here))
        | inr apart ↦ world.each_seat d seat (seats.others d seat apart here)
      ];
      seated = world.seated;
      count = ap length connections ∙ world.count;
      keeps = λ k one kept at_k here. world.keeps k one kept at_k (ap (λ xs. slice_get xs k) (sym connections) ∙ here);
      log = differs.log ∙ world.log;
      wires = world.wires;
      wired = subst (λ rings. AreWired sizes rings world.wires) (sym differs.rings) world.wired;
      mirrors = world.mirrors;
    }

-- the bytes written are unchanged if a command is parsed
taken_bytes : (sizes : Sizes) (w : World) (k : ℕ) (link : Link) (one : Taken) → LinkLaw sizes (of_asker k w.log) link
    → handed_bytes sizes w k link ≡ handed_bytes sizes w k (record link { taken = link.taken ++ one ∷ [] })
taken_bytes sizes w k link one law =
    let own = replies_in (of_asker k w.log) in
    let others = pending_replies_from sizes.shards (0 + length link.taken) (one ∷ []) in
    let pending_replies = pending_replies-append sizes.shards 0 link.taken (one ∷ []) in
    let stay = replies_stay (pending_replies_of sizes.shards link.taken) others own [] link.handed
    (are_replies sizes w k link law).whole in
    ap concat (sym stay ∙ (ap
    (λ rs. take link.handed (replies (pending_replies_of sizes.shards link.taken ++ others) rs)) (append-nil own)
    ∙ ap (λ fs. take link.handed (replies fs own)) (sym pending_replies)))

-- A command is taken.
pub takes : {may_show : ServerStats → Type 0} (old new : Sim) (c number moment : ℕ) (ticket : Ticket)
    (place after : Seat) → Finds old c number place → number < length old.connections.items
    → ((flow : Flow) → IsConn place.conn flow → TakesCommand flow moment may_show ticket after.conn) →
    after.current ≡ place.current → Differs old new c after → new.connections.items ≡ old.connections.items
    → StepsByEvent old (Take c moment) replied.Done new
unfolding Stands
takes old new c number moment ticket place after finds below conn same differs connections sizes w world =
    let f = found sizes w old c number place world finds.here finds.current in
    let link = f.0 in
    let at = f.1 in
    let s = f.2 in
    let o = conn (flow_of sizes link s.lent s.accepted) s.is in
    let one = o.one in
    let next : Link = record link { taken = link.taken ++ one ∷ [] } in
    let w' = with_link w number next in
    let kept = get_below old.connections.items number below in
    let h = world.keeps number link kept.0 at.here kept.1 in
    let own = world.law.links number link at.here in
    let spelled : IsNextCommand sizes link one.entry =
    subst (λ es. SpellFirst sizes link.fed es) (map-append (λ (t : Taken). t.entry) link.taken (one ∷ [])) o.next in
    let happens : Happens sizes w (Take c moment) Done w' = (
      number,
      link,
      (at, (one.entry, spelled), o.room, o.whole),
      (one, record { next = spelled; moment_is = o.moment_is; may = o.may }, refl),
    ) in
    let law = event_kept sizes w (Take c moment) Done w' world.within.shards.0 happens world.law in
    let serving : IsServing sizes (of_asker number w.log) next after.conn =
    record {
      lent = s.lent;
      accepted = s.accepted;
      is = o.now;
      fits = fits_take sizes.shards link.taken one s.accepted (received_by link (of_asker number w.log)) s.fits;
    } in
    let keeps : KeepsLink sizes w' number next kept.0 =
    record {
      seat = h.seat;
      ended = h.ended;
      broken = h.broken;
      fed = h.fed;
      handed = h.handed ∙ taken_bytes sizes w number link one own;
    } in
    let sent_same : take link.sent (pieces sizes.shards link.taken) ≡ take link.sent (pieces sizes.shards next.taken) =
    sym (ap (λ ps. take link.sent ps) (pieces_from-append sizes.shards 0 link.taken (one ∷ []))
    ∙ take-append-le link.sent (pieces sizes.shards link.taken)
    (pieces_from sizes.shards (0 + length link.taken) (one ∷ [])) own.sent) in (
      w',
      happens,
      seat_stays sizes w old new c number link next place after world finds at refl law differs same serving
          (kept_same sizes w' number next old.connections.items new.connections.items kept.0 kept.1 connections keeps)
          (λ t. ap (λ ps. drop (ran w number t) (channel t ps)) sent_same) refl refl,
    )

-- one command more than all
pub not_one_more : (sizes : Sizes) (link : Link) (command : Command) → IsAllTaken sizes link
    → IsNextCommand sizes link command → ⊥
not_one_more sizes link command all next =
    let begun = commands_begin (rules_of sizes) link.fed [] (entries link ++ command ∷ []) (entries link) next
    (subst (λ bytes. SpellAll sizes bytes (entries link)) (sym (append-nil link.fed)) all) in
    let long = ap length begun.1 in
    absurd (omega (
      arith,
      long,
      length-append (entries link ++ command ∷ []) begun.0,
      length-append (entries link) (command ∷ []),
    ))

-- one command more than the last
not_after_last : (sizes : Sizes) (link : Link) (command : Command) → IsTrue (is_closed (entries link))
    → IsNextCommand sizes link command → ⊥
not_after_last sizes link command closed next =
    let last = last_of (rules_of sizes) (entries link) 0 link.fed command next.0 next.1 in
    absurd (let e : true ≡ false = sym closed ∙ last.goes_on in cc)

-- No command is taken, and the lists stay.
takes_none : (old new : Sim) (c number moment : ℕ) (place after : Seat) → Finds old c number place → after.current
    ≡ place.current → Differs old new c after → new.connections.items ≡ old.connections.items →
    ((flow : Flow) → IsConn place.conn flow → IsConn after.conn flow) →
    ((sizes : Sizes) (link : Link) (lent : Bool) (accepted : List Shown) (command : Command)
    → IsConn place.conn (flow_of sizes link lent accepted) → IsNextCommand sizes link command → HasWindow sizes link
    → link.broken ≡ false → ⊥) →
    StepsByEvent old (Take c moment) replied.Idle new
unfolding Stands
takes_none old new c number moment place after finds same differs connections conn none sizes w world =
    let f = found sizes w old c number place world finds.here finds.current in
    let link = f.0 in
    let s = f.2 in (
      w,
      (
        inl (λ e.
            let one = one_at w c number e.0 link e.1 f.1 e.2.0 in
            let may : ((command : Command) × IsNextCommand sizes link command) × HasWindow sizes link
            × (link.broken ≡ false) =
            subst (λ x. ((command : Command) × IsNextCommand sizes x command) × HasWindow sizes x × (x.broken ≡ false))
            (sym one.1) (e.2.1, e.2.2, e.2.3) in
            none sizes link s.lent s.accepted may.0.0 s.is may.0.1 may.1 may.2),
        refl,
      ),
      seat_again sizes w old new c number link place after world finds f.1 differs same
          (record {
            lent = s.lent;
            accepted = s.accepted;
            is = conn (flow_of sizes link s.lent s.accepted) s.is;
            fits = s.fits;
          }) connections,
    )

-- A Take is idle if all commands in the input were parsed, and more bytes are needed for another.
pub takes_all : (old new : Sim) (c number moment : ℕ) (place after : Seat) → Finds old c number place → after.current
    ≡ place.current → Differs old new c after → new.connections.items ≡ old.connections.items →
    ((flow : Flow) → IsConn place.conn flow → NeedsMore flow after.conn)
    → StepsByEvent old (Take c moment) replied.Idle new
takes_all old new c number moment place after finds same differs connections conn =
    takes_none old new c number moment place after finds same differs connections (λ flow is. (conn flow is).now)
    (λ sizes link lent accepted command is next window unset. not_one_more sizes link command
    (conn (flow_of sizes link lent accepted) is).all next)

-- A Take is idle where the connection has as many open commands as its window has room for.
pub takes_full : (old new : Sim) (c number moment : ℕ) (place after : Seat) → Finds old c number place → after.current
    ≡ place.current → Differs old new c after → new.connections.items ≡ old.connections.items →
    ((flow : Flow) → IsConn place.conn flow → FillsWindow flow after.conn)
    → StepsByEvent old (Take c moment) replied.Idle new
takes_full old new c number moment place after finds same differs connections conn =
    takes_none old new c number moment place after finds same differs connections (λ flow is. (conn flow is).now)
    (λ sizes link lent accepted command is next window unset. let full =
    (conn (flow_of sizes link lent accepted) is).full in absurd (omega (arith, full, window)))

over_none : (sizes : Sizes) (link : Link) (lent : Bool) (accepted : List Shown) (command : Command)
    → IsOver (flow_of sizes link lent accepted) → IsNextCommand sizes link command → link.broken ≡ false → ⊥
over_none sizes link lent accepted command (inl broken) next unset =
    absurd (let e : true ≡ false = sym broken ∙ unset in cc)
over_none sizes link lent accepted command (inr (inl shut)) next unset = not_after_last sizes link command shut next
over_none sizes link lent accepted command (inr (inr done)) next unset = not_one_more sizes link command done.1 next

-- A Take is idle where the connection is closed or broken.
pub takes_closed : (old new : Sim) (c number moment : ℕ) (place after : Seat) → Finds old c number place → after.current
    ≡ place.current → Differs old new c after → new.connections.items ≡ old.connections.items →
    ((flow : Flow) → IsConn place.conn flow → IsOver flow × IsConn after.conn flow)
    → StepsByEvent old (Take c moment) replied.Idle new
takes_closed old new c number moment place after finds same differs connections conn =
    takes_none old new c number moment place after finds same differs connections (λ flow is. (conn flow is).1)
    (λ sizes link lent accepted command is next window unset. over_none sizes link lent accepted command
    (conn (flow_of sizes link lent accepted) is).0 next unset)

-- the element at a place
pub get_index : {X : Type 0} (xs : List X) (i : ℕ) (x : X) → i < length xs → x ≡ slice_index_or xs i x → slice_get xs i
    ≡ Some x
get_index [] i x below is = absurd (omega (arith, below))
get_index (y ∷ xs) zero x below is = ap (λ z. Some z) (sym is)
get_index (y ∷ xs) (suc i) x below is = get_index xs i x (omega (arith, below)) is

-- Two reads at one index of a list return equal elements.
pub same_index : {X : Type 0} (xs : List X) (i : ℕ) (x y : X) → i < length xs → x ≡ slice_index_or xs i x → y
    ≡ slice_index_or xs i y → x ≡ y
same_index xs i x y below is is' = at_once xs i i x y (get_index xs i x below is) (get_index xs i y below is') refl

-- The seat that was found is the one at its index.
pub finds_at : (sim : Sim) (c number : ℕ) (place : Seat) → c < length sim.seats.items → place
    ≡ slice_index_or sim.seats.items c place
    → ((x : Seat) × (slice_get sim.seats.items c ≡ Some x) × (x.current ≡ Some number)) → Finds sim c number place
finds_at sim c number place below is f =
    let here = get_index sim.seats.items c place below is in
    record {
      here = here;
      current = ap (λ (x : Seat). x.current) (at_once sim.seats.items c c place f.0 here f.1 refl)
          ∙ f.2;
    }

-- An event finds the seat at the index, if that seat has this connection.
pub finds_some : (sim : Sim) (c number : ℕ)
    (f : (x : Seat) × (slice_get sim.seats.items c ≡ Some x) × (x.current ≡ Some number)) → Finds sim c number f.0
finds_some sim c number f = record { here = f.1; current = f.2 }

abbrev pub HasNone : Sim → ℕ → Type 0
HasNone sim c = (sizes : Sizes) (w : World) → Stands sizes sim w → (k : ℕ) (link : Link) → IsAt w c k link → ⊥

-- a seat that isn't there has no connection
pub no_seat : (sim : Sim) (c : ℕ) → length sim.seats.items ≤ c → HasNone sim c
unfolding Stands
no_seat sim c beyond sizes w world k link at =
    let below = world.seated k link at.here in
    let e = at.seat_is in
    let n = world.seat_count in
    absurd (omega (arith, below, e, n, beyond))

-- A seat that has had no connection has none in any world of the simulator.
pub no_current : (sim : Sim) (c : ℕ) (place : Seat) → slice_get sim.seats.items c ≡ Some place → place.current ≡ None
    → HasNone sim c
unfolding Stands
no_current sim c place here none sizes w world k link at =
    let is : SeatIs sizes w c place.conn None =
    subst (λ o. SeatIs sizes w c place.conn o) none (world.each_seat c place here) in
    is.0 k link at.here at.seat_is

-- A seat whose connection has a number beyond those kept has none in any world of the simulator.
pub no_kept : (sim : Sim) (c number : ℕ) (place : Seat) → Finds sim c number place
    → length sim.connections.items ≤ number → HasNone sim c
unfolding Stands
no_kept sim c number place finds beyond sizes w world k link at =
    let f = found sizes w sim c number place world finds.here finds.current in
    let below = slice_get_within w.links number f.0 f.1.here in
    let n = world.count in
    absurd (omega (arith, below, n, beyond))
