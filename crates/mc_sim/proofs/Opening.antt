-- A new connection leads a core on.
use Rattle.std.proofs.Common.{◌≡◌, ◌≢◌, ℕ, ◌+◌, ◌<◌, ◌≤◌, ◌⊎◌, inl, inr, Bool, true, false, Some, Option, None, List}
use Rattle.std.proofs.Common.{[], ◌∷◌, ◌++◌, length, take, drop, refl, sym, ap, ◌∙◌, subst, arith, slice_set}
use Rattle.std.proofs.Common.{length-append}
use Rattle.std.specs.Prelude.{◌↔◌, IsTrue, MatchBool}
use Rattle.std.specs.List.{slice_get}
use Rattle.std.proofs.lemmas.Bool.{cases_eq}
use Rattle.std.proofs.lemmas.List.{drop_all, length-map, length-take-le, take-append-drop, take_all}
use Rattle.std.proofs.lemmas.Option.{slice_get_within}
use Rattle.mc_sizes.specs.Sizes.{rules_of}
use Rattle.mc_sizes.specs.declared.sizes.Sizes.{Sizes}
use Rattle.mc_ring.specs.EndsLaws.{get-set_other, get-set_same, length-slice_set}
use Rattle.mc_ring.specs.Reply.{Shown}
use Rattle.mc_conn.specs.declared.conn.Conn.{Conn}
use Rattle.mc_conn.specs.Conn.{IsConn}
use Rattle.mc_conn.specs.Flow.{IsAtRest, IsOver, Flow, all_texts, new_flow}
use Rattle.mc_conn.specs.Due.{due, channel, pieces}
use Rattle.mc_conn.specs.Fits.{HasCome}
use Rattle.mc_conn.proofs.Counting.{come_from_count, count_from_come}
use Rattle.mc_conn.proofs.Fitting.{fits_none}
use Rattle.mc_conn.proofs.Gets.{get_front}
use Rattle.mc_conn.proofs.Places.{channel-append}
use Rattle.mc_conn.proofs.Staying.{is_sound}
use Rattle.mc_model.specs.declared.event.StepReply.TheVariants as replied
use Rattle.mc_sim.specs.declared.sim.Connection.{Connection}
use Rattle.mc_sim.specs.declared.sim.Seat.{Seat}
use Rattle.mc_sim.specs.declared.sim.Sim.{Sim}
use Rattle.mc_model.specs.Log.{Entry, of_asker, on_shard, replies_in, reply_to}
use Rattle.mc_model.specs.World.{IsAt, IsLink, Link, World, new_link, ran, sent_to}
use Rattle.mc_model.specs.Rest.{AtRest, IsAllReceived, IsAllSent, IsAllTaken, IsClosed, MayRenew}
use Rattle.mc_model.specs.Events.{IsRenewable, IsUnusedSeat}
use Rattle.mc_model.specs.Events.Event.{Open}
use Rattle.mc_model.specs.Schedule.{Happens}
use Rattle.mc_model.specs.declared.event.StepReply.TheVariants.{Done}
use Rattle.mc_sim.specs.Rings.{AreWired}
use Rattle.mc_sim.specs.Feeding.{MayBegin}
use Rattle.mc_model.specs.Law.{LinkLaw}
use Rattle.mc_model.proofs.Lists.{at_once, push_cases}
use Rattle.mc_model.proofs.Logs.{none_of}
use Rattle.mc_model.proofs.Every.{event_kept}
use Rattle.mc_sim.proofs.Changing.{one_at}
use Rattle.mc_sim.specs.Stands.{HandIs, IsServing, IsWorld, KeepsLink, Mirrors, SeatIs, Stands, StepsByEvent}
use Rattle.mc_sim.specs.Stands.{received_by, flow_of, unreceived, unrun}
use Rattle.mc_model.proofs.Links.{ran_within}
use Rattle.mc_sim.proofs.AtSeat.{IsSame, world_stays}
use Rattle.mc_sim.proofs.Handing.{come_back, come_on}
use Rattle.mc_ring.proofs.Lists.{get_last}

-- where all that is due was received, and only there, every command has its reply
all_due : (sizes : Sizes) (own : List Entry) (link : Link) (conn : Conn) → LinkLaw sizes own link
    → (s : IsServing sizes own link conn) → length (all_texts (flow_of sizes link s.lent s.accepted))
    ≡ length link.taken → IsAllReceived sizes link
all_due sizes own link conn law s all t =
    let come = come_back sizes own link (length link.taken) law
    (come_from_count sizes.shards (length link.taken) link.taken s.accepted (received_by link own) s.fits
    (omega (arith, all))) t in
    let whole = ap (λ ts. length (due sizes.shards t ts)) (take_all (length link.taken) link.taken (omega arith)) in
    let within = ran_within sizes own link law t in
    let received = law.received t in
    let given = law.given t in
    omega (arith, come, whole, within, received, given)

all_answered : (sizes : Sizes) (own : List Entry) (link : Link) (conn : Conn) → LinkLaw sizes own link
    → (s : IsServing sizes own link conn) → IsAllReceived sizes link
    → length (all_texts (flow_of sizes link s.lent s.accepted)) ≡ length link.taken
all_answered sizes own link conn law s all =
    let n = length link.taken in
    let come : HasCome sizes.shards link.taken link.received n = λ t.
    let whole = ap (λ ts. length (due sizes.shards t ts)) (take_all n link.taken (omega arith)) in
    let here = all t in
    omega (arith, whole, here) in
    let enough = count_from_come sizes.shards n link.taken s.accepted (received_by link own) (omega arith) s.fits
    (come_on sizes own link n law come) in
    let most = (is_sound conn (flow_of sizes link s.lent s.accepted) s.is).complete in
    omega (arith, enough, most)

-- A seat's connection is at rest where its world's is.
pub rests : (sizes : Sizes) (own : List Entry) (link : Link) (conn : Conn) → LinkLaw sizes own link
    → (s : IsServing sizes own link conn) → IsAtRest (flow_of sizes link s.lent s.accepted) → AtRest sizes link
rests sizes own link conn law s rest =
    let flow = flow_of sizes link s.lent s.accepted in
    let sent : IsAllSent sizes link = rest.sent in
    elim link.broken as (λ b. MatchBool b (length (all_texts flow) ≡ length link.taken)
    (IsAllTaken sizes link × (link.handed ≡ length link.taken))
    → MatchBool b (IsAllSent sizes link × IsAllReceived sizes link)
    (IsAllTaken sizes link × IsAllSent sizes link × (link.handed ≡ length link.taken))) [
      | true ↦ λ all. (sent, all_due sizes own link conn law s all)
      | false ↦ λ done. (done.0, sent, done.1)
    ] rest.done

pub rests_back : (sizes : Sizes) (own : List Entry) (link : Link) (conn : Conn) → LinkLaw sizes own link
    → (s : IsServing sizes own link conn) → AtRest sizes link → IsAtRest (flow_of sizes link s.lent s.accepted)
rests_back sizes own link conn law s rest =
    let flow = flow_of sizes link s.lent s.accepted in
    let both : IsAllSent sizes link
    × MatchBool link.broken (length (all_texts flow) ≡ length link.taken)
    (IsAllTaken sizes link × (link.handed ≡ length link.taken)) =
    elim link.broken as (λ b. MatchBool b (IsAllSent sizes link × IsAllReceived sizes link)
    (IsAllTaken sizes link × IsAllSent sizes link × (link.handed ≡ length link.taken)) → IsAllSent sizes link
    × MatchBool b (length (all_texts flow) ≡ length link.taken)
    (IsAllTaken sizes link × (link.handed ≡ length link.taken))) [
      | true ↦ λ r. (r.0, all_answered sizes own link conn law s r.1)
      | false ↦ λ r. (r.1, (r.0, r.2))
    ] rest in
    record { sent = both.0; done = both.1 }

pub overs : (sizes : Sizes) (link : Link) (lent : Bool) (accepted : List Shown)
    → IsOver (flow_of sizes link lent accepted) → IsClosed sizes link ⊎ IsTrue link.broken
overs sizes link lent accepted (inl broken) = inr broken
overs sizes link lent accepted (inr closed) = inl closed

pub overs_back : (sizes : Sizes) (link : Link) (lent : Bool) (accepted : List Shown) → IsClosed sizes link
    ⊎ IsTrue link.broken → IsOver (flow_of sizes link lent accepted)
overs_back sizes link lent accepted (inl closed) = inr closed
overs_back sizes link lent accepted (inr broken) = inl broken

-- A connection that was renewed, or was new, is new.
pub is_renewed : (old new : Conn) (result : Bool) (sizes : Sizes) (flow : Flow) → IsConn old flow → flow.shards
    ≡ sizes.shards → flow.rules ≡ rules_of sizes → flow.window ≡ sizes.window → IsTrue result
    ↔ (IsAtRest flow × IsOver flow) →
    (IsTrue result → IsConn new (new_flow flow.shards flow.rules flow.window)) → IsAtRest flow × IsOver flow
    → IsConn new (new_flow sizes.shards (rules_of sizes) sizes.window)
is_renewed old new result sizes flow is shards rules window when fresh may =
    let e : new_flow flow.shards flow.rules flow.window ≡ new_flow sizes.shards (rules_of sizes) sizes.window =
    λ i. new_flow (shards i) (rules i) (window i) in
    subst (λ t. IsConn new t) e (fresh (when.1 may))

pub is_still_new : (old new : Conn) (result : Bool) (sizes : Sizes)
    → IsConn old (new_flow sizes.shards (rules_of sizes) sizes.window)
    → (IsTrue result → IsConn new (new_flow sizes.shards (rules_of sizes) sizes.window))
    → (result ≡ false → new ≡ old) → IsConn new (new_flow sizes.shards (rules_of sizes) sizes.window)
is_still_new old new true sizes is fresh same = fresh refl
is_still_new old new false sizes is fresh same =
    subst (λ c. IsConn c (new_flow sizes.shards (rules_of sizes) sizes.window)) (sym (same refl)) is

-- all that was due at rest was received
pub due_received : (sizes : Sizes) (own : List Entry) (link : Link) → LinkLaw sizes own link → AtRest sizes link
    → (s : ℕ) → length (due sizes.shards s link.taken) ≤ link.received s
due_received sizes own link law rest s =
    elim link.broken as (λ b. MatchBool b (IsAllSent sizes link × IsAllReceived sizes link)
    (IsAllTaken sizes link × IsAllSent sizes link × (link.handed ≡ length link.taken))
    → length (due sizes.shards s link.taken) ≤ link.received s) [
      | true ↦ λ r. let all = r.1 s in omega (arith, all)
      | false ↦ λ r.
          let come = law.come s in
          let handed = r.2 in
          let whole = ap (λ ts. length (due sizes.shards s ts))
          (take_all link.handed link.taken (omega (arith, handed))) in
          omega (arith, come, whole)
    ] rest

-- no more was sent than is due
pub sent_within : (sizes : Sizes) (link : Link) (s : ℕ) → sent_to sizes s link ≤ length (due sizes.shards s link.taken)
sent_within sizes link s =
    let all = pieces sizes.shards link.taken in
    let whole = ap length (sym (channel-append s (take link.sent all) (drop link.sent all))
    ∙ ap (λ ps. channel s ps) (take-append-drop link.sent all)) in
    omega (arith, whole, length-append (channel s (take link.sent all)) (channel s (drop link.sent all)))

-- Of a connection at rest nothing is under way at any shard.
pub nothing_under_way : (sizes : Sizes) (own : List Entry) (link : Link) → LinkLaw sizes own link → AtRest sizes link
    → (s : ℕ) → (sent_to sizes s link ≤ length (on_shard s own)) × (link.given s ≤ link.received s)
    × (length (on_shard s own) ≤ link.given s)
nothing_under_way sizes own link law rest s =
    let all = due_received sizes own link law rest s in
    let sent = sent_within sizes link s in
    let received = law.received s in
    let given = law.given s in
    let popped = law.popped s in (
      omega (arith, all, sent, received, given),
      omega (arith, all, sent, received, given, popped),
      omega (arith, all, sent, received, given, popped),
    )

at_push : (w w' : World) (c d k : ℕ) (link : Link) → w'.links ≡ w.links ++ new_link c ∷ [] → c ≢ d → IsAt w d k link
    → IsAt w' d k link
at_push w w' c d k link is apart at = record {
  here = ap (λ xs. slice_get xs k) is ∙ get_front w.links (new_link c ∷ []) k link at.here;
  seat_is = at.seat_is;
  last =
      λ j other less at_j. elim (push_cases w.links (new_link c) j other (ap (λ xs. slice_get xs j) (sym is) ∙ at_j)) [
        | inl old ↦ at.last j other less old
        | inr this ↦ λ e. apart (sym (ap (λ (x : Link). x.seat) this.1) ∙ e)
      ];
}

-- What a new connection needs of the seat's last one: there is none, or it is at rest.
abbrev pub IsReady : Sizes → World → ℕ → Type 0
IsReady sizes w c = (k : ℕ) (link : Link) → IsAt w c k link → AtRest sizes link

pub ready : (sizes : Sizes) (w : World) (c : ℕ) → IsUnusedSeat w c ⊎ IsRenewable sizes w c → IsReady sizes w c
ready sizes w c (inl unused) k link at = absurd (unused k link at.here at.seat_is)
ready sizes w c (inr free) k link at = let one =
    one_at w c free.0 k free.1 link free.2 at in subst (λ x. AtRest sizes x) one.1 free.3.0

-- Nothing waits on the seat's rings.
quiet : (sizes : Sizes) (w : World) (old : Sim) (c s : ℕ) → (world : IsWorld sizes old w) → IsUnusedSeat w c
    ⊎ IsRenewable sizes w c → (world.wires.pieces c s ≡ []) × (world.wires.replies c s ≡ [])
quiet sizes w old c s world (inl unused) = world.mirrors.unused c unused s
quiet sizes w old c s world (inr free) =
    let link = free.1 in
    let at = free.2 in
    let law = world.law.links free.0 link at.here in
    let none = nothing_under_way sizes (of_asker free.0 w.log) link law free.3.0 s in
    let wait = world.mirrors.channels c free.0 link at s in
    let given = law.given s in
    let sent = none.0 in
    let received = none.1 in
    let long = length-map (on_shard s (of_asker free.0 w.log)) reply_to in
    let taken = length-take-le (link.given s) (replies_in (on_shard s (of_asker free.0 w.log)))
    (omega (arith, given, long)) in (
      wait.0 ∙ drop_all (ran w free.0 s) (channel s (take link.sent (pieces sizes.shards link.taken))) sent,
      wait.1 ∙ drop_all (link.received s) (take (link.given s) (replies_in (on_shard s (of_asker free.0 w.log))))
          (omega (arith, received, taken)),
    )

-- A new connection begins.
pub opens : (old new : Sim) (c : ℕ) (place after : Seat) (kept : Connection) → slice_get old.seats.items c
    ≡ Some place →
    ((sizes : Sizes) (w : World) → Stands sizes old w → (IsUnusedSeat w c ⊎ IsRenewable sizes w c)
    × IsConn after.conn (new_flow sizes.shards (rules_of sizes) sizes.window)) →
    after.current ≡ Some (length old.connections.items) → new.seats.items ≡ slice_set old.seats.items c after
    → new.connections.items ≡ old.connections.items ++ kept ∷ [] →
    kept.seat ≡ c → kept.ended ≡ false → kept.broken ≡ false → kept.fed.items ≡ [] → kept.handed.items ≡ []
    → new.log.items ≡ old.log.items → new.rings ≡ old.rings → StepsByEvent old (Open c) replied.Done new
unfolding Stands
opens old new c place after kept here free current set connections seat ended broken fed handed log rings sizes w world
    =
    let f = free sizes w world in
    let n = length w.links in
    let w' : World = record w { links = w.links ++ new_link c ∷ [] } in
    let below = slice_get_within old.seats.items c place here in
    let counted = world.seat_count in
    let happens : Happens sizes w (Open c) Done w' =
    (n, new_link c, (refl, refl, omega (arith, below, counted), f.0), refl) in
    let law = event_kept sizes w (Open c) Done w' world.within.shards.0 happens world.law in
    let long = length-append w.links (new_link c ∷ []) in
    let nothing : of_asker n w.log ≡ [] =
    none_of (λ (e : Entry). e.shard < sizes.shards) n n w.log world.law.owned (omega arith) in
    let new_here : IsLink w' n (new_link c) = get_last w.links (new_link c) in
    let new_at : IsAt w' c n (new_link c) = record {
      here = new_here;
      seat_is = refl;
      last = λ j other less at_j. let within =
          slice_get_within (w.links ++ new_link c ∷ []) j other at_j in absurd (omega (arith, within, less, long));
    } in
    let serving : IsServing sizes (of_asker n w.log) (new_link c) after.conn =
    record { lent = false; accepted = []; is = f.1; fits = fits_none sizes.shards } in
    let only : (k : ℕ) (link : Link) → IsAt w' c k link → (k ≡ n) × (link ≡ new_link c) = λ k link at.
    let one = one_at w' c n k (new_link c) link new_at at in (sym one.0, sym one.1) in
    let back : (d k : ℕ) (link : Link) → d ≢ c → IsAt w' d k link → IsAt w d k link =
    λ d k link apart at. elim (push_cases w.links (new_link c) k link at.here) [
      | inl before ↦ record {
        here = before;
        seat_is = at.seat_is;
        last = λ j other less at_j. at.last j other less (get_front w.links (new_link c ∷ []) j other at_j);
      }
      | inr this ↦ absurd (apart (sym at.seat_is ∙ ap (λ (x : Link). x.seat) this.1))
    ] in
    let unused_before : (d : ℕ) → IsUnusedSeat w' d → IsUnusedSeat w d =
    λ d unused k link at_k. unused k link (get_front w.links (new_link c ∷ []) k link at_k) in
    let seat_is : (d : ℕ) (conn : Conn) (o : Option ℕ) → d ≢ c → SeatIs sizes w d conn o → SeatIs sizes w' d conn o =
    λ d conn o apart. elim o as (λ x. SeatIs sizes w d conn x → SeatIs sizes w' d conn x) [
      | None ↦ λ is. (
        λ k link at_k same. elim (push_cases w.links (new_link c) k link at_k)
            [ inl before ↦ is.0 k link before same | inr this ↦ apart (sym same ∙ ap (λ (x : Link). x.seat) this.1) ],
        is.1,
      )
      | Some k ↦ λ is. (is.0, at_push w w' c d k is.0 refl (λ e. apart (sym e)) is.1, is.2)
    ] in
    let total = world.count in
    let number : after.current ≡ Some n = current ∙ ap (λ m. Some m) total in
    let mine : SeatIs sizes w' c after.conn after.current =
    subst (λ o. SeatIs sizes w' c after.conn o) (sym number) (new_link c, new_at, serving) in
    let hand_is : (s : ℕ) (hand : Option (ℕ × Shown)) → HandIs w s hand → HandIs w' s hand =
    λ s hand. elim hand as (λ h. HandIs w s h → HandIs w' s h) [
      | None ↦ λ empty k link at_k. elim (push_cases w.links (new_link c) k link at_k) [
        | inl before ↦ empty k link before
        | inr this ↦ let none =
            ap (λ m. ran w m s) this.0 ∙ ap (λ es. length (on_shard s es)) nothing in omega (arith, none)
      ]
      | Some h ↦ λ is.
          let apart : c ≢ h.0 = λ e.
          let rest = ready sizes w c f.0 is.number is.link (subst (λ x. IsAt w x is.number is.link) (sym e) is.at) in
          let none = nothing_under_way sizes (of_asker is.number w.log) is.link
          (world.law.links is.number is.link is.at.here) rest s in
          let given = none.2 in
          let ungiven = is.ungiven in
          absurd (omega (arith, given, ungiven)) in
          record {
            number = is.number;
            link = is.link;
            at = at_push w w' c h.0 is.number is.link refl apart is.at;
            ungiven = is.ungiven;
            reply_is = is.reply_is;
          }
    ] in
    let mirrors : Mirrors sizes w' world.wires = record {
      channels = λ d k link at s. elim (cases_eq d c) [
        | inl same ↦
            let this = only k link (subst (λ e. IsAt w' e k link) same at) in
            let none = quiet sizes w old c s world f.0 in
            let blank : unrun sizes w' n s (new_link c) ≡ [] =
            drop_all (ran w' n s) (channel s (take 0 (pieces sizes.shards []))) (omega arith) in
            let clear : unreceived w' n s (new_link c) ≡ [] = refl in (
              ap (λ e. world.wires.pieces e s) same
                  ∙ (none.0 ∙ (sym blank ∙
                  (ap (λ m. unrun sizes w' m s (new_link c)) (sym this.0)
                  ∙ ap (λ x. unrun sizes w' k s x) (sym this.1)))),
              ap (λ e. world.wires.replies e s) same
                  ∙ (none.1 ∙ (sym clear ∙
                  (ap (λ m. unreceived w' m s (new_link c)) (sym this.0)
                  ∙ ap (λ x. unreceived w' k s x) (sym this.1)))),
            )
        | inr apart ↦ let m = world.mirrors.channels d k link (back d k link apart at) s in (m.0, m.1)
      ];
      unused = λ d unused s. world.mirrors.unused d (unused_before d unused) s;
      hands = λ s below_s. hand_is s (world.wires.hand s) (world.mirrors.hands s below_s);
      left = world.mirrors.left;
    } in
    let stands : IsWorld sizes new w' = record {
      within = world.within;
      law = law;
      seat_count = ap length set ∙ (length-slice_set old.seats.items c after ∙ world.seat_count);
      each_seat = λ d seat found_d. elim (cases_eq d c) [
        | inl same ↦
            let this : after ≡ seat =
            at_once (slice_set old.seats.items c after) c d after seat (get-set_same old.seats.items c place after here)
            (ap (λ xs. slice_get xs d) (sym set) ∙ found_d) (sym same) in
            subst (λ e. SeatIs sizes w' e seat.conn seat.current) (sym same)
            (subst (λ (x : Seat). SeatIs sizes w' c x.conn x.current) this mine)
        | inr apart ↦ seat_is d seat.conn seat.current apart
            (world.each_seat d seat (sym (get-set_other old.seats.items c d after apart)
            ∙ (ap (λ xs. slice_get xs d) (sym set) ∙ found_d)))
      ];
      seated = λ k link at_k. elim (push_cases w.links (new_link c) k link at_k) [
        | inl before ↦ world.seated k link before
        | inr this ↦ let e = ap (λ (x : Link). x.seat) this.1 in omega (arith, e, below, counted)
      ];
      count =
          ap length connections ∙ (length-append old.connections.items (kept ∷ [])
          ∙ (ap (λ m. m + 1) total ∙ sym long));
      keeps =
          λ k link one at_k found_k.
          elim (push_cases old.connections.items kept k one (ap (λ xs. slice_get xs k) (sym connections) ∙ found_k)) [
            | inl there ↦ elim (push_cases w.links (new_link c) k link at_k) [
              | inl before ↦ let h =
                  world.keeps k link one before there in
                  record { seat = h.seat; ended = h.ended; broken = h.broken; fed = h.fed; handed = h.handed }
              | inr this ↦ let within = slice_get_within old.connections.items k one there in let e =
                  this.0 in absurd (omega (arith, within, e, total))
            ]
            | inr last ↦ elim (push_cases w.links (new_link c) k link at_k) [
              | inl before ↦ let within = slice_get_within w.links k link before in let e =
                  last.0 in absurd (omega (arith, within, e, total))
              | inr this ↦
                  let first : KeepsLink sizes w' k (new_link c) kept =
                  record { seat = seat; ended = ended; broken = broken; fed = fed; handed = handed } in
                  subst (λ x. KeepsLink sizes w' k x one) (sym this.1)
                  (subst (λ x. KeepsLink sizes w' k (new_link c) x) (sym last.1) first)
            ]
          ];
      log = log ∙ world.log;
      wires = world.wires;
      wired = subst (λ r. AreWired sizes r world.wires) (sym rings) world.wired;
      mirrors = mirrors;
    } in
    (w', happens, stands)

-- The seat in its world, and its connection after a reset, if a new connection may open on it.
pub frees : (old : Sim) (c : ℕ) (place : Seat) (after : Conn) (renewed : Bool) → slice_get old.seats.items c
    ≡ Some place → ((flow : Flow) → IsConn place.conn flow → MayBegin flow place.current) →
    ((flow : Flow) → IsConn place.conn flow → IsTrue renewed ↔ (IsAtRest flow × IsOver flow))
    → (IsTrue renewed → (flow : Flow) → IsConn place.conn flow
    → IsConn after (new_flow flow.shards flow.rules flow.window)) → (renewed ≡ false → after ≡ place.conn) →
    (sizes : Sizes) (w : World) → Stands sizes old w → (IsUnusedSeat w c ⊎ IsRenewable sizes w c)
    × IsConn after (new_flow sizes.shards (rules_of sizes) sizes.window)
unfolding Stands
frees old c place after renewed here may when fresh same sizes w world =
    elim place.current as (λ o. ((flow : Flow) → IsConn place.conn flow → MayBegin flow o)
    → SeatIs sizes w c place.conn o → (IsUnusedSeat w c ⊎ IsRenewable sizes w c)
    × IsConn after (new_flow sizes.shards (rules_of sizes) sizes.window)) [
      | None ↦ λ may' is. (
        inl is.0,
        is_still_new place.conn after renewed sizes is.1
            (λ yes'. fresh yes' (new_flow sizes.shards (rules_of sizes) sizes.window) is.1) same,
      )
      | Some k ↦ λ may' is.
          let link = is.0 in
          let at = is.1 in
          let s = is.2 in
          let flow = flow_of sizes link s.lent s.accepted in
          let both : IsAtRest flow × IsOver flow = elim (may' flow s.is) [
            | inl none ↦ absurd (cc)
            | inr these ↦ these
          ] in
          let law = world.law.links k link at.here in
          let renews : MayRenew sizes link =
          (rests sizes (of_asker k w.log) link place.conn law s both.0, overs sizes link s.lent s.accepted both.1) in (
            inr (k, link, at, renews),
            is_renewed place.conn after renewed sizes flow s.is refl refl refl (when flow s.is)
                (λ yes'. fresh yes' flow s.is) both,
          )
    ] may (world.each_seat c place here)

-- The seat isn't there.
pub opens_beyond : (old new : Sim) (c : ℕ) → length old.seats.items ≤ c → IsSame old new
    → StepsByEvent old (Open c) replied.Idle new
unfolding Stands
opens_beyond old new c beyond same sizes w world =
    let counted = world.seat_count in (
      w,
      (inl (λ e. let below = e.2.2 in absurd (omega (arith, below, counted, beyond))), refl),
      world_stays sizes w old new world same,
    )

-- The seat's connection may not be followed yet.
pub opens_not : (old new : Sim) (c : ℕ) (place : Seat) → slice_get old.seats.items c ≡ Some place
    → ((flow : Flow) → IsConn place.conn flow → MayBegin flow place.current → ⊥) → IsSame old new
    → StepsByEvent old (Open c) replied.Idle new
unfolding Stands
opens_not old new c place here not same sizes w world = (
  w,
  (
    inl (λ e.
        elim place.current as (λ o. ((flow : Flow) → IsConn place.conn flow → MayBegin flow o → ⊥)
        → SeatIs sizes w c place.conn o → ⊥) [
          | None ↦ λ never is. never (new_flow sizes.shards (rules_of sizes) sizes.window) is.1 (inl refl)
          | Some k ↦ λ never is.
              let link = is.0 in
              let at = is.1 in
              let s = is.2 in
              elim e.2.3 [
                | inl unused ↦ unused k link at.here at.seat_is
                | inr free ↦
                    let one = one_at w c free.0 k free.1 link free.2 at in
                    let renews : MayRenew sizes link = subst (λ x. MayRenew sizes x) one.1 free.3 in
                    never (flow_of sizes link s.lent s.accepted) s.is
                    (inr (
                      rests_back sizes (of_asker k w.log) link place.conn (world.law.links k link at.here) s
                          renews.0,
                      overs_back sizes link s.lent s.accepted renews.1,
                    ))
              ]
        ] not (world.each_seat c place here)),
    refl,
  ),
  world_stays sizes w old new world same,
)

-- There was no memory for what is kept of it.
pub opens_unkept : (old new : Sim) (c : ℕ) (place : Seat) → slice_get old.seats.items c ≡ Some place
    → ((flow : Flow) → IsConn place.conn flow → MayBegin flow place.current) → IsSame old new
    → StepsByEvent old (Open c) replied.NoMemory new
unfolding Stands
opens_unkept old new c place here may same sizes w world =
    let below = slice_get_within old.seats.items c place here in
    let counted = world.seat_count in
    let free : IsUnusedSeat w c ⊎ IsRenewable sizes w c =
    elim place.current as (λ o. ((flow : Flow) → IsConn place.conn flow → MayBegin flow o)
    → SeatIs sizes w c place.conn o → IsUnusedSeat w c ⊎ IsRenewable sizes w c) [
      | None ↦ λ may' is. inl is.0
      | Some k ↦ λ may' is.
          let link = is.0 in
          let at = is.1 in
          let s = is.2 in
          let both : IsAtRest (flow_of sizes link s.lent s.accepted) × IsOver (flow_of sizes link s.lent s.accepted) =
          elim (may' (flow_of sizes link s.lent s.accepted) s.is) [
            | inl none ↦ absurd (cc)
            | inr these ↦ these
          ] in
          inr (
            k,
            link,
            at,
            (
              rests sizes (of_asker k w.log) link place.conn (world.law.links k link at.here) s both.0,
              overs sizes link s.lent s.accepted both.1,
            ),
          )
    ] may (world.each_seat c place here) in (
      w,
      ((tt, (length w.links, new_link c, (refl, refl, omega (arith, below, counted), free))), refl),
      world_stays sizes w old new world same,
    )
