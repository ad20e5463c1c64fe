-- A piece that was run leads a core on.
use Rattle.std.proofs.Common.{◌≡◌, ◌≢◌, ℕ, ◌+◌, ◌<◌, ◌≤◌, ◌==◌, inl, inr, true, Option, Some, None, List, [], ◌∷◌, ◌++◌}
use Rattle.std.proofs.Common.{length, map, take, drop, refl, sym, ap, ◌∙◌, subst, arith, append-nil, length-append}
use Rattle.std.specs.List.{concat, slice_get}
use Rattle.std.proofs.lemmas.Bool.{cases_eq, cases_lt}
use Rattle.std.proofs.lemmas.List.{length-map, map-append, take-append-drop, take-append-le}
use Rattle.std.proofs.lemmas.List.Elements.{filter-append}
use Rattle.std.proofs.lemmas.Option.{slice_get_within}
use Rattle.mc_sizes.specs.declared.sizes.Sizes.{Sizes}
use Rattle.mc_ring.specs.Reply.{Shown}
use Rattle.mc_join.specs.Replies.{replies}
use Rattle.mc_conn.specs.declared.conn.Conn.{Conn}
use Rattle.mc_conn.specs.Due.{due, pending_replies_of, channel, pieces}
use Rattle.mc_conn.specs.Fits.{Fits}
use Rattle.mc_conn.proofs.Counting.{due_beyond}
use Rattle.mc_conn.proofs.Gets.{get_front}
use Rattle.mc_conn.proofs.Places.{channel-append}
use Rattle.mc_model.specs.declared.event.StepReply.TheVariants as replied
use Rattle.mc_sim.specs.declared.sim.Connection.{Connection}
use Rattle.mc_sim.specs.declared.sim.Seat.{Seat}
use Rattle.mc_sim.specs.declared.sim.Sim.{Sim}
use Rattle.mc_sim.specs.declared.sim.rings.Ran.{Ran}
use Rattle.mc_model.specs.Sized.{empty_shard}
use Rattle.mc_model.specs.Log.{Entry, Leaves, Run, of_asker, on_shard, replies_in, reply_to}
use Rattle.mc_model.specs.World.{IsAt, IsLink, Link, World, ran, sent_to, with_entry}
use Rattle.mc_model.specs.Events.{IsEmptyHand, RunsNext}
use Rattle.mc_model.specs.Events.Event.{Pop}
use Rattle.mc_model.specs.Schedule.{Happens}
use Rattle.mc_model.specs.declared.event.StepReply.TheVariants.{Done}
use Rattle.mc_model.specs.Headline.{handed_bytes}
use Rattle.mc_model.specs.Law.{LinkLaw}
use Rattle.mc_sim.specs.Rings.{AreThere, AreWired, RunsOldest, TellsWaiting, Wires, with_channel, with_shard}
use Rattle.mc_sim.specs.Stands.{HandIs, IsHolding, IsServing, IsWorld, KeepsLink, Mirrors, SeatIs, Stands, StepsByEvent}
use Rattle.mc_sim.specs.Stands.{line_of, received_by, unreceived, unrun}
use Rattle.mc_model.proofs.Lists.{at_once}
use Rattle.mc_model.proofs.Logs.{Run-push, of_asker-yes, on_shard-no, on_shard-yes, ran_push}
use Rattle.mc_model.proofs.Follows.{are_replies}
use Rattle.mc_model.proofs.Growing.{replies_stay}
use Rattle.mc_model.proofs.Every.{event_kept}
use Rattle.mc_sim.proofs.Changing.{one_at}
use Rattle.mc_sim.proofs.Standing.{found}
use Rattle.mc_sim.proofs.AtRing.{drop_first, only_rings, shard_here, shard_not, waiting, with_far, with_here, with_not}
use Rattle.mc_ring.proofs.Lists.{get_last}

at_entry : (w : World) (entry : Entry) (c k : ℕ) (link : Link) → IsAt w c k link → IsAt (with_entry w entry) c k link
at_entry w entry c k link at = record { here = at.here; seat_is = at.seat_is; last = at.last }

entry_at : (w : World) (entry : Entry) (c k : ℕ) (link : Link) → IsAt (with_entry w entry) c k link → IsAt w c k link
entry_at w entry c k link at = record { here = at.here; seat_is = at.seat_is; last = at.last }

-- the replies of a shard to a connection, where the log is longer
abbrev more_replies : Entry → ℕ → ℕ → List Shown
more_replies entry j s = replies_in (on_shard s (of_asker j (entry ∷ [])))

longer : (log : List Entry) (entry : Entry) (j s : ℕ) → replies_in (on_shard s (of_asker j (log ++ entry ∷ [])))
    ≡ replies_in (on_shard s (of_asker j log)) ++ more_replies entry j s
longer log entry j s =
    ap (λ es. replies_in (on_shard s es)) (filter-append (λ (e : Entry). e.asker == j) log (entry ∷ []))
    ∙ (ap replies_in (filter-append (λ (e : Entry). e.shard == s) (of_asker j log) (of_asker j (entry ∷ [])))
    ∙ map-append reply_to (on_shard s (of_asker j log)) (on_shard s (of_asker j (entry ∷ []))))

-- the first of them are unchanged
first_same : (log : List Entry) (entry : Entry) (j s n : ℕ) → n ≤ length (on_shard s (of_asker j log))
    → take n (replies_in (on_shard s (of_asker j (log ++ entry ∷ []))))
    ≡ take n (replies_in (on_shard s (of_asker j log)))
first_same log entry j s n within =
    ap (λ rs. take n rs) (longer log entry j s)
    ∙ take-append-le n (replies_in (on_shard s (of_asker j log))) (more_replies entry j s)
    (let long = length-map (on_shard s (of_asker j log)) reply_to in omega (arith, within, long))

-- what a seat accepted stays in its place
serving_on : (sizes : Sizes) (log : List Entry) (entry : Entry) (j : ℕ) (link : Link) (conn : Conn)
    → LinkLaw sizes (of_asker j log) link → IsServing sizes (of_asker j log) link conn
    → IsServing sizes (of_asker j (log ++ entry ∷ [])) link conn
serving_on sizes log entry j link conn law s =
    let each : (t : ℕ) → received_by link (of_asker j log) t ≡ received_by link (of_asker j (log ++ entry ∷ [])) t =
    λ t.
    let received = law.received t in
    let given = law.given t in
    sym (first_same log entry j t (link.received t) (omega (arith, received, given))) in
    let all : received_by link (of_asker j log) ≡ received_by link (of_asker j (log ++ entry ∷ [])) = λ i t. each t i in
    record {
      lent = s.lent;
      accepted = s.accepted;
      is = s.is;
      fits = subst (λ r. Fits sizes.shards link.taken s.accepted r) all s.fits;
    }

-- the bytes written are unchanged
run_bytes : (sizes : Sizes) (w : World) (entry : Entry) (j : ℕ) (link : Link) → LinkLaw sizes (of_asker j w.log) link
    → handed_bytes sizes w j link ≡ handed_bytes sizes (with_entry w entry) j link
run_bytes sizes w entry j link law =
    let pending_replies = pending_replies_of sizes.shards link.taken in
    let own = replies_in (of_asker j w.log) in
    let more = replies_in (of_asker j (entry ∷ [])) in
    let stay = replies_stay pending_replies [] own more link.handed (are_replies sizes w j link law).whole in
    let all : replies_in (of_asker j (w.log ++ entry ∷ [])) ≡ own ++ more =
    ap replies_in (filter-append (λ (e : Entry). e.asker == j) w.log (entry ∷ []))
    ∙ map-append reply_to (of_asker j w.log) (of_asker j (entry ∷ [])) in
    ap concat (sym stay ∙ (ap (λ fs. take link.handed (replies fs (own ++ more))) (append-nil pending_replies)
    ∙ ap (λ rs. take link.handed (replies pending_replies rs)) (sym all)))

seat_run : (sizes : Sizes) (w : World) (entry : Entry) (c : ℕ) (conn : Conn) (current : Option ℕ)
    → ((k : ℕ) (link : Link) → IsLink w k link → LinkLaw sizes (of_asker k w.log) link) → SeatIs sizes w c conn current
    → SeatIs sizes (with_entry w entry) c conn current
seat_run sizes w entry c conn None laws is = (is.0, is.1)
seat_run sizes w entry c conn (Some j) laws is =
    let at = is.1 in (
      is.0,
      at_entry w entry c j is.0 at,
      serving_on sizes w.log entry j is.0 conn (laws j is.0 at.here) is.2,
    )

kept_run : (sizes : Sizes) (w : World) (entry : Entry) (j : ℕ) (link : Link) (kept : Connection)
    → LinkLaw sizes (of_asker j w.log) link → KeepsLink sizes w j link kept
    → KeepsLink sizes (with_entry w entry) j link kept
kept_run sizes w entry j link kept law h =
    record {
      seat = h.seat;
      ended = h.ended;
      broken = h.broken;
      fed = h.fed;
      handed = h.handed ∙ run_bytes sizes w entry j link law;
    }

-- How many a shard ran for a connection stays, but for the entry's own.
ran_same : (w : World) (entry : Entry) (k s : ℕ) → (entry.asker ≡ k → entry.shard ≡ s → ⊥)
    → ran (with_entry w entry) k s ≡ ran w k s
ran_same w entry k s other = elim (ran_push w.log entry k s) [
  | inl more ↦ absurd (other more.0 more.1)
  | inr same ↦ same
]

-- If a piece was sent to a shard, that is there.
sent_there : (sizes : Sizes) (link : Link) (shard : ℕ) → 0 < sizes.shards → 0 < sent_to sizes shard link
    → shard < sizes.shards
sent_there sizes link shard some sent = elim (cases_lt shard sizes.shards) [
  | inl below ↦ below
  | inr beyond ↦
      let all = pieces sizes.shards link.taken in
      let none = ap length (due_beyond sizes.shards shard link.taken some beyond) in
      let whole = ap length (sym (channel-append shard (take link.sent all) (drop link.sent all))
      ∙ ap (λ ps. channel shard ps) (take-append-drop link.sent all)) in
      absurd (omega (
        arith,
        none,
        whole,
        sent,
        length-append (channel shard (take link.sent all)) (channel shard (drop link.sent all)),
      ))
]

-- A piece may be run: the hand is empty, and one waits.
may_run : (sizes : Sizes) (w : World) (old : Sim) (c k : ℕ) (link : Link) (shard : ℕ) → (world : IsWorld sizes old w)
    → IsAt w c k link → world.wires.hand shard ≡ None → 0 < length (world.wires.pieces c shard) →
    (shard < sizes.shards) × IsEmptyHand w shard × (ran w k shard < sent_to sizes shard link)
may_run sizes w old c k link shard world at free some =
    let count = waiting sizes w old c k link shard world at in
    let there = sent_there sizes link shard world.within.shards.0 (omega (arith, count, some)) in
    (there, subst (λ o. HandIs w shard o) free (world.mirrors.hands shard there), omega (arith, count, some))

-- A piece was run.
pub pops : (old new : Sim) (c number shard : ℕ) (ran' : Ran)
    (f : (x : Seat) × (slice_get old.seats.items c ≡ Some x) × (x.current ≡ Some number)) →
    ((sizes : Sizes) (wires : Wires) → AreWired sizes old.rings wires → RunsOldest sizes wires shard c ran' new.rings) →
    new.seats.items ≡ old.seats.items → new.connections.items ≡ old.connections.items →
    new.log.items ≡ old.log.items
    ++ record { shard = shard; connection = number; ticket = ran'.ticket; part = ran'.part; moment = ran'.moment } ∷ []
    → StepsByEvent old (Pop shard c) replied.Done new
unfolding Stands
pops old new c number shard ran' f run seats connections log sizes w world =
    let g = found sizes w old c number f.0 world f.1 f.2 in
    let link = g.0 in
    let at = g.1 in
    let r = run sizes world.wires world.wired in
    let entry : Entry = record { shard = shard; asker = number; piece = r.entry.piece; answer = r.entry.answer } in
    let w' = with_entry w entry in
    let law = world.law.links number link at.here in
    let old_pieces = world.wires.pieces in
    let wait = world.mirrors.channels c number link at in
    let some : 0 < length (old_pieces c shard) = let long = ap length r.oldest in omega (arith, long) in
    let may = may_run sizes w old c number link shard world at r.free some in
    let sent = take link.sent (pieces sizes.shards link.taken) in
    let first = drop_first (ran w number shard) (channel shard sent) r.entry.piece r.rest
    (sym (wait shard).0 ∙ r.oldest) in
    let all = pieces sizes.shards link.taken in
    let next : slice_get (due sizes.shards shard link.taken) (ran w number shard) ≡ Some r.entry.piece =
    ap (λ ps. slice_get ps (ran w number shard))
    (sym (sym (channel-append shard sent (drop link.sent all))
    ∙ ap (λ ps. channel shard ps) (take-append-drop link.sent all)))
    ∙ get_front (channel shard sent) (channel shard (drop link.sent all)) (ran w number shard) r.entry.piece first.0 in
    let runs : RunsNext sizes w shard number link entry = record {
      shard_is = refl;
      asker_is = refl;
      next = next;
      before = world.wires.state shard;
      after = r.after;
      left = world.mirrors.left shard may.0;
      step = r.step;
    } in
    let happens : Happens sizes w (Pop shard c) Done w' = (number, link, (at, may.1, may.2), (entry, runs, refl)) in
    let law' = event_kept sizes w (Pop shard c) Done w' world.within.shards.0 happens world.law in
    let now_pieces = with_channel old_pieces c shard r.rest in
    let one_more_run : ran w' number shard ≡ ran w number shard + 1 = elim (ran_push w.log entry number shard) [
      | inl more ↦ more.2
      | inr same ↦ ap (λ es. length (on_shard shard es)) (of_asker-yes number w.log entry refl)
          ∙ (ap length (on_shard-yes shard (of_asker number w.log) entry refl)
          ∙ length-append (on_shard shard (of_asker number w.log)) (entry ∷ []))
    ] in
    let channel_pieces : (d k : ℕ) (one : Link) → IsAt w d k one → (s : ℕ) → now_pieces d s ≡ unrun sizes w' k s one =
    λ d k one at_d s. elim (cases_eq d c) [
      | inl same ↦
          let this = one_at w c number k link one at (subst (λ e. IsAt w e k one) same at_d) in
          let mine : now_pieces c s ≡ unrun sizes w' number s link = elim (cases_eq s shard) [
            | inl here ↦
                with_here old_pieces c shard s r.rest here
                ∙ (sym first.1
                ∙ (ap (λ n. drop n (channel shard sent)) (sym one_more_run)
                ∙ ap (λ t. drop (ran w' number t) (channel t sent)) (sym here)))
            | inr other ↦
                with_not old_pieces c shard s r.rest other
                ∙ ((wait s).0 ∙ ap (λ n. drop n (channel s sent))
                (sym (ran_same w entry number s (λ asks e. other (sym e)))))
          ] in
          ap (λ e. now_pieces e s) same
          ∙ (mine ∙ (ap (λ n. unrun sizes w' n s link) this.0 ∙ ap (λ x. unrun sizes w' k s x) this.1))
      | inr apart ↦
          let far : number ≢ k = λ e. apart
          (sym at_d.seat_is ∙ (ap (λ (x : Link). x.seat) (at_once w.links k number one link at_d.here at.here (sym e))
          ∙ at.seat_is)) in
          with_far old_pieces c shard d s r.rest apart
          ∙ ((world.mirrors.channels d k one at_d s).0
          ∙ ap (λ n. drop n (channel s (take one.sent (pieces sizes.shards one.taken))))
          (sym (ran_same w entry k s (λ asks e. far asks))))
    ] in
    let channel_replies : (d k : ℕ) (one : Link) → IsAt w d k one → (s : ℕ) → world.wires.replies d s
    ≡ unreceived w' k s one = λ d k one at_d s.
    (world.mirrors.channels d k one at_d s).1
    ∙ ap (λ rs. drop (one.received s) rs)
    (sym (first_same w.log entry k s (one.given s) ((world.law.links k one at_d.here).given s))) in
    let held : IsHolding w' shard c (reply_to entry) =
    let bound = may.1 number link at.here in
    let given = law.given shard in
    let rs = replies_in (on_shard shard (of_asker number w.log)) in
    let long = length-map (on_shard shard (of_asker number w.log)) reply_to in
    let place : link.given shard ≡ length rs = omega (arith, bound, given, long) in
    let grown : replies_in (on_shard shard (of_asker number w'.log)) ≡ rs ++ reply_to entry ∷ [] =
    ap (λ es. replies_in (on_shard shard es)) (of_asker-yes number w.log entry refl)
    ∙ (ap replies_in (on_shard-yes shard (of_asker number w.log) entry refl)
    ∙ map-append reply_to (on_shard shard (of_asker number w.log)) (entry ∷ [])) in
    record {
      number = number;
      link = link;
      at = at_entry w entry c number link at;
      ungiven = omega (arith, given, one_more_run);
      reply_is =
          ap (λ xs. slice_get xs (link.given shard)) grown
          ∙ (ap (λ n. slice_get (rs ++ reply_to entry ∷ []) n) place ∙ get_last rs (reply_to entry));
    } in
    let other_hand : (s : ℕ) (hand : Option (ℕ × Shown)) → s ≢ shard → HandIs w s hand → HandIs w' s hand =
    λ s hand other. elim hand as (λ h. HandIs w s h → HandIs w' s h) [
      | None ↦ λ empty k one at_k. let same = ran_same w entry k s (λ asks e. other (sym e)) in let bound =
          empty k one at_k in omega (arith, same, bound)
      | Some h ↦ λ is.
          let same = ran_same w entry is.number s (λ asks e. other (sym e)) in
          let ungiven = is.ungiven in
          let within = slice_get_within (replies_in (on_shard s (of_asker is.number w.log))) (is.link.given s) h.1
          is.reply_is in
          record {
            number = is.number;
            link = is.link;
            at = at_entry w entry h.0 is.number is.link is.at;
            ungiven = omega (arith, same, ungiven);
            reply_is = ap (λ xs. slice_get xs (is.link.given s)) (longer w.log entry is.number s)
                ∙ get_front (replies_in (on_shard s (of_asker is.number w.log))) (more_replies entry is.number s)
                (is.link.given s) h.1 is.reply_is;
          }
    ] in
    let mirrors : Mirrors sizes w' (record {
      pieces = now_pieces;
      replies = world.wires.replies;
      hand = with_shard world.wires.hand shard (Some (c, reply_to r.entry));
      state = with_shard world.wires.state shard r.after;
    }) = record {
      channels = λ d k one at_d s. let was =
          entry_at w entry d k one at_d in (channel_pieces d k one was s, channel_replies d k one was s);
      unused = λ d unused s.
          let apart : d ≢ c = λ e. unused number link at.here (at.seat_is ∙ sym e) in
          let none = world.mirrors.unused d unused s in (with_far old_pieces c shard d s r.rest apart ∙ none.0, none.1);
      hands = λ s below. elim (cases_eq s shard) [
        | inl same ↦
            subst (λ o. HandIs w' s o) (sym (shard_here world.wires.hand shard s (Some (c, reply_to r.entry)) same))
            (subst (λ t. IsHolding w' t c (reply_to r.entry)) (sym same) held)
        | inr other ↦ subst (λ o. HandIs w' s o)
            (sym (shard_not world.wires.hand shard s (Some (c, reply_to r.entry)) other))
            (other_hand s (world.wires.hand s) other (world.mirrors.hands s below))
      ];
      left = λ s below. elim (cases_eq s shard) [
        | inl same ↦
            let here : Leaves sizes shard w'.log r.after =
            subst (λ es. Run (empty_shard sizes shard) es r.after) (sym (on_shard-yes shard w.log entry refl))
            (Run-push (empty_shard sizes shard) (on_shard shard w.log) (world.wires.state shard) r.after entry
            (world.mirrors.left shard may.0) r.step) in
            subst (λ state. Leaves sizes s w'.log state) (sym (shard_here world.wires.state shard s r.after same))
            (subst (λ t. Leaves sizes t w'.log r.after) (sym same) here)
        | inr other ↦
            let here : Leaves sizes s w'.log (world.wires.state s) =
            subst (λ es. Run (empty_shard sizes s) es (world.wires.state s))
            (sym (on_shard-no s w.log entry (λ e. other (sym e)))) (world.mirrors.left s below) in
            subst (λ state. Leaves sizes s w'.log state) (sym (shard_not world.wires.state shard s r.after other)) here
      ];
    } in
    let line : record {
      shard = shard;
      connection = number;
      ticket = ran'.ticket;
      part = ran'.part;
      moment = ran'.moment;
    } ≡ line_of entry =
    λ i. record { shard = shard; connection = number; ticket = r.ticket i; part = r.part i; moment = r.moment i } in
    let stands : IsWorld sizes new w' = record {
      within = world.within;
      law = law';
      seat_count = ap length seats ∙ world.seat_count;
      each_seat =
          λ d seat here. seat_run sizes w entry d seat.conn seat.current world.law.links
          (world.each_seat d seat (ap (λ xs. slice_get xs d) (sym seats) ∙ here));
      seated = world.seated;
      count = ap length connections ∙ world.count;
      keeps =
          λ k one kept at_k here. kept_run sizes w entry k one kept (world.law.links k one at_k)
          (world.keeps k one kept at_k (ap (λ xs. slice_get xs k) (sym connections) ∙ here));
      log =
          log ∙ (ap (λ es. es ++ record {
            shard = shard;
            connection = number;
            ticket = ran'.ticket;
            part = ran'.part;
            moment = ran'.moment;
          } ∷ []) world.log
          ∙ (ap (λ x. map line_of w.log ++ x ∷ []) line ∙ sym (map-append line_of w.log (entry ∷ []))));
      wires = record {
        pieces = now_pieces;
        replies = world.wires.replies;
        hand = with_shard world.wires.hand shard (Some (c, reply_to r.entry));
        state = with_shard world.wires.state shard r.after;
      };
      wired = r.now;
      mirrors = mirrors;
    } in
    (w', happens, stands)

-- None was run: the hand is full, or none waits.
pub pops_none : (old new : Sim) (c number shard : ℕ)
    (f : (x : Seat) × (slice_get old.seats.items c ≡ Some x) × (x.current ≡ Some number)) →
    ((sizes : Sizes) (wires : Wires) → AreWired sizes old.rings wires
    → (AreThere sizes c shard → wires.hand shard ≡ None → wires.pieces c shard ≡ []) × AreWired sizes new.rings wires) →
    new.seats.items ≡ old.seats.items → new.connections.items ≡ old.connections.items → new.log.items ≡ old.log.items
    → StepsByEvent old (Pop shard c) replied.Idle new
unfolding Stands
pops_none old new c number shard f run seats connections log sizes w world =
    let r = run sizes world.wires world.wired in (
      w,
      (
        inl (λ e.
            let k = e.0 in
            let link = e.1 in
            let at = e.2.0 in
            let empty = e.2.1 in
            let less = e.2.2 in
            let seat : c < sizes.seats = let below = world.seated k link at.here in let is = at.seat_is in
            omega (arith, below, is) in
            let there = sent_there sizes link shard world.within.shards.0 (omega (arith, less)) in
            let count = waiting sizes w old c k link shard world at in
            elim (world.wires.hand shard) as (λ o. world.wires.hand shard ≡ o → HandIs w shard o → ⊥) [
              | None ↦ λ is free. let none =
                  ap length (r.0 (seat, there) is) in absurd (omega (arith, none, count, less))
              | Some held ↦ λ is h. let bound = empty h.number h.link h.at.here in let ungiven =
                  h.ungiven in absurd (omega (arith, bound, ungiven))
            ] refl (world.mirrors.hands shard there)),
        refl,
      ),
      only_rings sizes w old new world seats connections log r.1,
    )

-- There was no memory for the entry.
pub pops_unkept : (old new : Sim) (c number shard : ℕ)
    (f : (x : Seat) × (slice_get old.seats.items c ≡ Some x) × (x.current ≡ Some number)) →
    ((sizes : Sizes) (wires : Wires) → AreWired sizes old.rings wires → TellsWaiting sizes wires shard c true new.rings)
    →
    new.seats.items ≡ old.seats.items → new.connections.items ≡ old.connections.items → new.log.items ≡ old.log.items
    → StepsByEvent old (Pop shard c) replied.NoMemory new
unfolding Stands
pops_unkept old new c number shard f waits seats connections log sizes w world =
    let g = found sizes w old c number f.0 world f.1 f.2 in
    let t = waits sizes world.wires world.wired in
    let some = t.some refl in
    let may = may_run sizes w old c number g.0 shard world g.1 some.0 some.1 in
    (w, ((tt, (number, g.0, (g.1, may.1, may.2))), refl), only_rings sizes w old new world seats connections log t.now)
