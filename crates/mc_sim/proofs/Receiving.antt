-- A reply that was received leads a core on.
use Rattle.std.proofs.Common.{◌≡◌, ℕ, ◌+◌, ◌<◌, inl, inr, Some, Result, Ok, Err, List, [], ◌∷◌, ◌++◌, length, take}
use Rattle.std.proofs.Common.{drop, refl, sym, ap, ◌∙◌, subst, arith, slice_set}
use Rattle.std.specs.Prelude.{OnErr, OnOk}
use Rattle.std.specs.List.{slice_get}
use Rattle.std.proofs.lemmas.Bool.{cases_eq, cases_lt}
use Rattle.std.proofs.lemmas.List.{length-map, length-take-le}
use Rattle.std.proofs.lemmas.Option.{same_Some}
use Rattle.mc_sizes.specs.declared.sizes.Sizes.{Sizes}
use Rattle.mc_ring.specs.Reply.{Shown}
use Rattle.mc_split.specs.declared.plan.Piece.{Piece}
use Rattle.mc_join.specs.declared.reorder_buffer.UnexpectedReply.{UnexpectedReply}
use Rattle.mc_join.specs.Expects.{Expects}
use Rattle.mc_conn.specs.declared.conn.Conn.{Conn}
use Rattle.mc_conn.specs.Conn.{IsConn}
use Rattle.mc_conn.specs.Flow.{Flow, all_pending_replies}
use Rattle.mc_conn.specs.Due.{due}
use Rattle.mc_conn.specs.Fits.{IsReplyTo, ReceivesFromShard}
use Rattle.mc_conn.proofs.Counting.{due_beyond}
use Rattle.mc_conn.proofs.Fitting.{next_expected, next_fits}
use Rattle.mc_conn.proofs.Gets.{get_take}
use Rattle.mc_model.specs.declared.event.StepReply.TheVariants as replied
use Rattle.mc_sim.specs.declared.sim.Seat.{Seat}
use Rattle.mc_sim.specs.declared.sim.Sim.{Sim}
use Rattle.mc_model.specs.Log.{Entry, of_asker, on_shard, replies_in, reply_to}
use Rattle.mc_model.specs.World.{Link, with_link}
use Rattle.mc_model.specs.Events.{one_more}
use Rattle.mc_model.specs.Events.Event.{Receive}
use Rattle.mc_model.specs.Schedule.{Happens}
use Rattle.mc_model.specs.declared.event.StepReply.TheVariants.{Done}
use Rattle.mc_model.specs.Law.{LinkLaw}
use Rattle.mc_sim.specs.Rings.{AreWired, ReceivesNone, ReceivesReply, Wires, with_channel}
use Rattle.mc_sim.specs.Stands.{IsServing, KeepsLink, SeatIs, Stands, StepsByEvent, received_by, flow_of, unreceived}
use Rattle.mc_model.proofs.Lists.{take_next}
use Rattle.mc_model.proofs.Links.{ran_within}
use Rattle.mc_model.proofs.Every.{event_kept}
use Rattle.mc_sim.proofs.Changing.{at_same, hand_on, mirrors_on}
use Rattle.mc_sim.proofs.Standing.{found, kept_same, seats_set, world_on}
use Rattle.mc_sim.proofs.AtSeat.{Finds}
use Rattle.mc_sim.proofs.AtRing.{drop_first, more_here, more_not, only_rings, replies_wait, with_far, with_here}
use Rattle.mc_sim.proofs.AtRing.{with_not}
use Rattle.mc_ring.proofs.Lists.{get_map, get_below}

-- a reply that is expected is accepted
pub accepts : (result : Result (Unit {0}) UnexpectedReply) (conn after : Conn) (reply : Shown) →
    OnOk result ((flow : Flow) → IsConn conn flow → Expects (all_pending_replies flow) flow.accepted reply
    × IsConn after (record flow { accepted = flow.accepted ++ reply ∷ [] })) →
    OnErr result ((flow : Flow) → IsConn conn flow → (¬ Expects (all_pending_replies flow) flow.accepted reply)
    × IsConn after flow) →
    (flow : Flow) → IsConn conn flow → Expects (all_pending_replies flow) flow.accepted reply
    → IsConn after (record flow { accepted = flow.accepted ++ reply ∷ [] })
accepts (Ok done) conn after reply ok err flow is expects = (ok flow is).1
accepts (Err unexpected_reply) conn after reply ok err flow is expects = absurd ((err flow is).0 expects)

-- The oldest reply that waits for a connection, and the piece that it answers.
record Answers (sizes : Sizes) (own : List Entry) (link : Link) (shard : ℕ) (reply : Shown) : Type 0 where
  pub piece : Piece
  pub asked : slice_get (due sizes.shards shard link.taken) (link.received shard) ≡ Some piece
  pub fits : IsReplyTo piece reply

answers : (sizes : Sizes) (own : List Entry) (link : Link) (shard : ℕ) (reply : Shown) → LinkLaw sizes own link
    → link.received shard < link.given shard → slice_get (replies_in (on_shard shard own)) (link.received shard)
    ≡ Some reply → Answers sizes own link shard reply
answers sizes own link shard reply law less here =
    let es = on_shard shard own in
    let given = law.given shard in
    let e = get_below es (link.received shard) (omega (arith, less, given)) in
    let this : reply_to e.0 ≡ reply =
    same_Some (reply_to e.0) reply (sym (get_map reply_to es (link.received shard) e.0 e.1) ∙ here) in
    let first : slice_get (take (length es) (due sizes.shards shard link.taken)) (link.received shard)
    ≡ Some e.0.piece =
    ap (λ ps. slice_get ps (link.received shard)) (sym (law.served shard))
    ∙ get_map (λ (x : Entry). x.piece) es (link.received shard) e.0 e.1 in
    let to : IsReplyTo e.0.piece (reply_to e.0) = record { ticket = refl; part = refl; kind = refl } in
    record {
      piece = e.0.piece;
      asked = (get_take (length es) (due sizes.shards shard link.taken) (link.received shard) e.0.piece first).1;
      fits = subst (λ r. IsReplyTo e.0.piece r) this to;
    }

-- A reply was received, and accepted.
pub receives : (old new : Sim) (c number shard : ℕ) (reply : Shown) (place after : Seat) → Finds old c number place
    → number < length old.connections.items →
    ((sizes : Sizes) (wires : Wires) → AreWired sizes old.rings wires
    → ReceivesReply sizes wires c shard reply new.rings) →
    ((flow : Flow) → IsConn place.conn flow → Expects (all_pending_replies flow) flow.accepted reply
    → IsConn after.conn (record flow { accepted = flow.accepted ++ reply ∷ [] })) →
    after.current ≡ place.current → new.seats.items ≡ slice_set old.seats.items c after → new.connections.items
    ≡ old.connections.items → new.log.items ≡ old.log.items → StepsByEvent old (Receive c shard) replied.Done new
unfolding Stands
receives old new c number shard reply place after finds below receive conn same set connections log sizes w world =
    let f = found sizes w old c number place world finds.here finds.current in
    let link = f.0 in
    let at = f.1 in
    let s = f.2 in
    let r = receive sizes world.wires world.wired in
    let own = of_asker number w.log in
    let law = world.law.links number link at.here in
    let rs : ℕ → List Shown = λ t. replies_in (on_shard t own) in
    let old_replies = world.wires.replies in
    let wait = world.mirrors.channels c number link at in
    let first = drop_first (link.received shard) (take (link.given shard) (rs shard)) reply r.rest
    (sym (wait shard).1 ∙ r.oldest) in
    let got = get_take (link.given shard) (rs shard) (link.received shard) reply first.0 in
    let a = answers sizes own link shard reply law got.0 got.1 in
    let next : Link = record link { received = one_more link.received shard } in
    let w' = with_link w number next in
    let happens : Happens sizes w (Receive c shard) Done w' = (number, link, (at, got.0), refl) in
    let law' = event_kept sizes w (Receive c shard) Done w' world.within.shards.0 happens world.law in
    let less = got.0 in
    let given = law.given shard in
    let long = length-map (on_shard shard own) reply_to in
    let counted : length (received_by link own shard) ≡ link.received shard =
    length-take-le (link.received shard) (rs shard) (omega (arith, less, given, long)) in
    let asked : slice_get (due sizes.shards shard link.taken) (length (received_by link own shard)) ≡ Some a.piece =
    ap (λ n. slice_get (due sizes.shards shard link.taken) n) counted ∙ a.asked in
    let comes : ReceivesFromShard (received_by link own) shard reply (received_by next own) = record {
      here =
          ap (λ n. take n (rs shard)) (more_here link.received shard shard refl)
          ∙ take_next (link.received shard) (rs shard) reply got.1;
      others = λ t other. ap (λ n. take n (rs t)) (more_not link.received shard t other);
    } in
    let expects = next_expected sizes.shards shard link.taken s.accepted (received_by link own) a.piece reply s.fits
    asked a.fits in
    let serving : IsServing sizes own next after.conn = record {
      lent = s.lent;
      accepted = s.accepted ++ reply ∷ [];
      is = conn (flow_of sizes link s.lent s.accepted) s.is expects;
      fits =
          next_fits sizes.shards shard link.taken s.accepted (received_by link own) (received_by next own) a.piece reply
          s.fits asked a.fits comes;
    } in
    let is : SeatIs sizes w' c after.conn after.current =
    subst (λ x. SeatIs sizes w' c after.conn x) (sym (same ∙ finds.current))
    (next, at_same w c number link next at refl, serving) in
    let kept = get_below old.connections.items number below in
    let h = world.keeps number link kept.0 at.here kept.1 in
    let keeps : KeepsLink sizes w' number next kept.0 =
    record { seat = h.seat; ended = h.ended; broken = h.broken; fed = h.fed; handed = h.handed } in
    let now_replies = with_channel old_replies c shard r.rest in
    let mine : (t : ℕ) → now_replies c t ≡ unreceived w number t next = λ t. elim (cases_eq t shard) [
      | inl here ↦
          with_here old_replies c shard t r.rest here
          ∙ (sym first.1
          ∙ (ap (λ e. drop (link.received e + 1) (take (link.given e) (rs e))) (sym here)
          ∙ ap (λ n. drop n (take (link.given t) (rs t))) (sym (more_here link.received shard t here))))
      | inr other ↦
          with_not old_replies c shard t r.rest other
          ∙ ((wait t).1 ∙ ap (λ n. drop n (take (link.given t) (rs t))) (sym (more_not link.received shard t other)))
    ] in
    let wires' : Wires = record world.wires { replies = now_replies } in
    let mirrors = mirrors_on sizes w world.wires wires' c number link next world.mirrors at refl
    (λ t. ((wait t).0, mine t))
    (λ d t apart. (refl, with_far old_replies c shard d t r.rest apart))
    (λ t below_t. hand_on w t number link next (world.wires.hand t) at.here refl refl (world.mirrors.hands t below_t))
    (λ t. refl) in (
      w',
      happens,
      world_on sizes w c number link next old new wires' world at refl law'
          (seats_set sizes w' c old.seats.items new.seats.items place after finds.here set is)
          (kept_same sizes w' number next old.connections.items new.connections.items kept.0 kept.1 connections keeps)
          log r.now mirrors,
    )

-- None waits.
pub receives_none : (old new : Sim) (c number shard : ℕ)
    (f : (x : Seat) × (slice_get old.seats.items c ≡ Some x) × (x.current ≡ Some number)) →
    ((sizes : Sizes) (wires : Wires) → AreWired sizes old.rings wires → ReceivesNone sizes wires c shard new.rings) →
    new.seats.items ≡ old.seats.items → new.connections.items ≡ old.connections.items → new.log.items ≡ old.log.items
    → StepsByEvent old (Receive c shard) replied.Idle new
unfolding Stands
receives_none old new c number shard f receive seats connections log sizes w world =
    let r = receive sizes world.wires world.wired in (
      w,
      (
        inl (λ e.
            let link = e.1 in
            let at = e.2.0 in
            let less = e.2.1 in
            let law = world.law.links e.0 link at.here in
            let given = law.given shard in
            let seat : c < sizes.seats = let below = world.seated e.0 link at.here in let is = at.seat_is in
            omega (arith, below, is) in
            let there : shard < sizes.shards = elim (cases_lt shard sizes.shards) [
              | inl below ↦ below
              | inr beyond ↦
                  let within = ran_within sizes (of_asker e.0 w.log) link law shard in
                  let none = ap length (due_beyond sizes.shards shard link.taken world.within.shards.0 beyond) in
                  absurd (omega (arith, within, none, given, less))
            ] in
            let count = replies_wait sizes w old c e.0 link shard world at in
            let none = ap length (r.none (seat, there)) in
            absurd (omega (arith, count, none, less))),
        refl,
      ),
      only_rings sizes w old new world seats connections log r.now,
    )
