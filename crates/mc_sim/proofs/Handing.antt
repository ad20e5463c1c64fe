-- Replies that were handed out lead a core on.
use Rattle.std.proofs.Common.{◌≡◌, ℕ, zero, suc, ◌+◌, ◌<◌, ◌≤◌, inl, true, false, Some, Option, List, [], ◌∷◌, ◌++◌}
use Rattle.std.proofs.Common.{length, map, take, drop, refl, sym, ap, ◌∙◌, subst, arith, slice_set}
use Rattle.std.specs.Prelude.{IsTrue}
use Rattle.std.specs.List.{AllByRecursion, concat, slice_get}
use Rattle.std.specs.Option.{option_map}
use Rattle.std.proofs.lemmas.List.{length-map, length-take-le, take-append-drop, take_all, take-take}
use Rattle.std.proofs.lemmas.Option.{slice_get_within}
use Rattle.mc_sizes.specs.declared.sizes.Sizes.{Sizes}
use Rattle.mc_ring.specs.Reply.{Shown}
use Rattle.mc_split.specs.declared.plan.Piece.{Piece}
use Rattle.mc_item.specs.declared.answer.Answer.{Answer}
use Rattle.mc_join.specs.Replies.{answer_to, answers_of, replies, slots_after}
use Rattle.mc_reply.specs.declared.ticket.Ticket.{Ticket}
use Rattle.mc_split.specs.Plan.{no_answers, parts_from}
use Rattle.mc_split.specs.Pieces.{ShardOp, pieces_of}
use Rattle.mc_conn.specs.declared.conn.Conn.{Conn}
use Rattle.mc_conn.specs.Conn.{IsConn}
use Rattle.mc_conn.specs.History.{Taken, planned, text_done}
use Rattle.mc_conn.specs.Flow.{Flow, all_texts, waiting_text}
use Rattle.mc_conn.specs.Due.{done_at, due, pending_replies_of, history_from, channel, pieces, pieces_at, pieces_from}
use Rattle.mc_conn.specs.Due.{ticket_at}
use Rattle.mc_conn.specs.Fits.{Fits, HasCome, counts}
use Rattle.mc_conn.proofs.Counting.{come_from_count, count_from_come, due_first}
use Rattle.mc_conn.proofs.Places.{channel_there}
use Rattle.mc_conn.proofs.Staying.{is_sound}
use Rattle.mc_conn.proofs.Telling.{tells}
use Rattle.mc_model.specs.declared.event.StepReply.{StepReply}
use Rattle.mc_model.specs.declared.event.StepReply.TheVariants as replied
use Rattle.mc_sim.specs.declared.sim.Connection.{Connection}
use Rattle.mc_sim.specs.declared.sim.Seat.{Seat}
use Rattle.mc_sim.specs.declared.sim.Sim.{Sim}
use Rattle.mc_model.specs.Log.{Entry, of_asker, on_shard, replies_in, reply_to}
use Rattle.mc_model.specs.World.{Link, World, with_link}
use Rattle.mc_model.specs.Events.{Allows, IsTurn}
use Rattle.mc_model.specs.Events.Event.{Hand}
use Rattle.mc_model.specs.Schedule.{Happens}
use Rattle.mc_model.specs.declared.event.StepReply.TheVariants.{Done}
use Rattle.mc_sim.specs.Feeding.{HandsInto}
use Rattle.mc_sim.specs.Rings.{AreWired}
use Rattle.mc_model.specs.Law.{LinkLaw}
use Rattle.mc_model.specs.Headline.{handed_bytes}
use Rattle.mc_model.proofs.Lists.{all_from}
use Rattle.mc_model.proofs.Growing.{concat-append}
use Rattle.mc_sim.specs.Stands.{IsServing, IsWorld, KeepsLink, SeatIs, Stands, StepsByEvent, received_by, flow_of}
use Rattle.mc_model.proofs.Every.{event_kept}
use Rattle.mc_sim.proofs.Changing.{one_at}
use Rattle.mc_sim.proofs.Standing.{found, kept_set, seats_set}
use Rattle.mc_sim.proofs.AtSeat.{Differs, Finds, IsSame, seat_stays, world_stays}
use Rattle.mc_sim.proofs.Feeding.{world_again}

take_less : {X : Type 0} (n : ℕ) (xs : List X) (i : ℕ) → i < n → slice_get (take n xs) i ≡ slice_get xs i
take_less zero xs i less = absurd (omega (arith, less))
take_less (suc n) [] i less = refl
take_less (suc n) (x ∷ xs) zero less = refl
take_less (suc n) (x ∷ xs) (suc i) less = take_less n xs i (omega (arith, less))

-- as many replies were received from each shard as the link counts
received_count : (sizes : Sizes) (own : List Entry) (link : Link) → LinkLaw sizes own link → (s : ℕ)
    → length (received_by link own s) ≡ link.received s
received_count sizes own link law s =
    let received = law.received s in
    let given = law.given s in
    let long = length-map (on_shard s own) reply_to in
    length-take-le (link.received s) (replies_in (on_shard s own)) (omega (arith, received, given, long))

-- By the law, where the counts of replies received are enough for the first commands, their lists are too.
pub come_on : (sizes : Sizes) (own : List Entry) (link : Link) (count : ℕ) → LinkLaw sizes own link
    → HasCome sizes.shards link.taken link.received count
    → HasCome sizes.shards link.taken (counts (received_by link own)) count
come_on sizes own link count law come s = let here = come s in let same =
    received_count sizes own link law s in omega (arith, here, same)

-- By the law, where the lists of replies received are enough for the first commands, their counts are too.
pub come_back : (sizes : Sizes) (own : List Entry) (link : Link) (count : ℕ) → LinkLaw sizes own link
    → HasCome sizes.shards link.taken (counts (received_by link own)) count
    → HasCome sizes.shards link.taken link.received count
come_back sizes own link count law come s = let here = come s in let same =
    received_count sizes own link law s in omega (arith, here, same)

-- The replies whose turn has come are those to as many commands as need no further answer.
pub is_turn : (sizes : Sizes) (own : List Entry) (link : Link) (conn : Conn) → LinkLaw sizes own link
    → (s : IsServing sizes own link conn)
    → IsTurn sizes link (length (all_texts (flow_of sizes link s.lent s.accepted)))
is_turn sizes own link conn law s =
    let sound = is_sound conn (flow_of sizes link s.lent s.accepted) s.is in
    let count = length (all_texts (flow_of sizes link s.lent s.accepted)) in
    record {
      within = sound.complete;
      come =
          come_back sizes own link count law
          (come_from_count sizes.shards count link.taken s.accepted (received_by link own) s.fits (omega arith));
      most =
          λ more within come. count_from_come sizes.shards more link.taken s.accepted (received_by link own) within
          s.fits (come_on sizes own link more law come);
    }

-- what was accepted for a piece
abbrev flow_for : List Shown → ℕ × Piece → Option Answer
flow_for accepted piece = answer_to accepted piece.1.ticket piece.1.part

parts_flow : (accepted : List Shown) (first : ℕ) (ticket : Ticket) (moment : ℕ) (asked : List ShardOp)
    → map (flow_for accepted) (parts_from first ticket moment asked)
    ≡ slots_after accepted ticket first (no_answers asked)
parts_flow accepted first ticket moment [] = refl
parts_flow accepted first ticket moment (one ∷ asked) =
    ap (λ xs. answer_to accepted ticket first ∷ xs) (parts_flow accepted (first + 1) ticket moment asked)

abbrev AgreeOn : List Shown → List Shown → List (ℕ × Piece) → Type 0
AgreeOn one other all = AllByRecursion (λ piece. flow_for one piece ≡ flow_for other piece) all

map_agree : (one other : List Shown) (all : List (ℕ × Piece)) → AgreeOn one other all → map (flow_for one) all
    ≡ map (flow_for other) all
map_agree one other [] agree = refl
map_agree one other (piece ∷ all) agree =
    ap (λ a. a ∷ map (flow_for one) all) agree.0
    ∙ ap (λ as'. flow_for other piece ∷ as') (map_agree one other all agree.1)

all_front : {X : Type 0} (P : X → Type 0) (xs ys : List X) → AllByRecursion P (xs ++ ys) → AllByRecursion P xs
    × AllByRecursion P ys
all_front P [] ys all = (tt, all)
all_front P (x ∷ xs) ys all = let rest = all_front P xs ys all.1 in ((all.0, rest.0), rest.1)

-- equal answers make equal histories
history_same : (shards : ℕ) (one other : List Shown) (number : ℕ) (taken : List Taken)
    → AgreeOn one other (pieces_from shards number taken) → history_from shards one number taken
    ≡ history_from shards other number taken
history_same shards one other number [] agree = refl
history_same shards one other number (first ∷ taken) agree =
    let both = all_front (λ piece. flow_for one piece ≡ flow_for other piece) (pieces_at shards number first)
    (pieces_from shards (number + 1) taken) agree in
    let asked = pieces_of shards (planned first) in
    let slots : slots_after one (ticket_at number) 0 (no_answers asked)
    ≡ slots_after other (ticket_at number) 0 (no_answers asked) =
    sym (parts_flow one 0 (ticket_at number) first.moment asked)
    ∙ (map_agree one other (pieces_at shards number first) both.0
    ∙ parts_flow other 0 (ticket_at number) first.moment asked) in
    ap (λ xs. record {
      entry = first.entry;
      moment = first.moment;
      server = first.server;
      given_up = first.given_up;
      answers = answers_of xs;
    } ∷ history_from shards one (number + 1) taken) slots
    ∙ ap (λ rest. done_at shards other number first ∷ rest) (history_same shards one other (number + 1) taken both.1)

-- What was accepted of the first commands is what the log has of them.
same_texts : (sizes : Sizes) (own : List Entry) (link : Link) (accepted : List Shown) (count : ℕ)
    → LinkLaw sizes own link → Fits sizes.shards link.taken accepted (received_by link own) → count ≤ length link.taken
    → HasCome sizes.shards link.taken link.received count →
    take count (replies (pending_replies_of sizes.shards link.taken) accepted)
    ≡ take count (replies (pending_replies_of sizes.shards link.taken) (replies_in own))
same_texts sizes own link accepted count law fits within come =
    let shards = sizes.shards in
    let first = take count link.taken in
    let full : ℕ → List Shown = λ s. replies_in (on_shard s own) in
    let agree : AgreeOn accepted (replies_in own) (pieces shards first) =
    all_from (λ piece. flow_for accepted piece ≡ flow_for (replies_in own) piece) (pieces shards first) (λ i piece here.
    let s = piece.0 in
    let p = piece.1 in
    let place = length (channel s (take i (pieces shards first))) in
    let on = channel_there s (pieces shards first) i p here in
    let due_at = due_first shards s count link.taken place p on in
    let below = slice_get_within (due shards s first) place p on in
    let came = come s in
    let less : place < link.received s = omega (arith, below, came) in
    let same : slice_get (received_by link own s) place ≡ slice_get (full s) place =
    take_less (link.received s) (full s) place less in
    fits.answers s place p due_at ∙
    (ap (λ o. option_map (λ (r : Shown). r.answer) o) same ∙ sym (law.fits.answers s place p due_at))) in
    let flow = tells shards count link.taken accepted (received_by link own) within law.may fits
    (come_on sizes own link count law come) in
    let logged = tells shards count link.taken (replies_in own) full within law.may law.fits (λ s.
    let came = come s in
    let received = law.received s in
    let given = law.given s in
    let long = length-map (on_shard s own) reply_to in
    omega (arith, came, received, given, long)) in
    flow.texts ∙ (ap (λ history. map text_done history) (history_same shards accepted (replies_in own) 0 first agree)
    ∙ sym logged.texts)

-- The bytes that the connection was handed before, with those that were waiting, are those that it is handed
-- now.
pub handed_now : (sizes : Sizes) (w : World) (k : ℕ) (link : Link) (conn : Conn)
    (law : LinkLaw sizes (of_asker k w.log) link) (s : IsServing sizes (of_asker k w.log) link conn) →
    let flow = flow_of sizes link s.lent s.accepted in
    handed_bytes sizes w k link ++ waiting_text flow
    ≡ handed_bytes sizes w k (record link { handed = length (all_texts flow) })
handed_now sizes w k link conn law s =
    let own = of_asker k w.log in
    let flow = flow_of sizes link s.lent s.accepted in
    let texts = all_texts flow in
    let n = length texts in
    let turn = is_turn sizes own link conn law s in
    let logged = replies (pending_replies_of sizes.shards link.taken) (replies_in own) in
    let sound = is_sound conn flow s.is in
    let same : texts ≡ take n logged = sym (take_all n texts (omega arith))
    ∙ same_texts sizes own link s.accepted n law s.fits turn.within turn.come in
    let front : take link.handed texts ≡ take link.handed logged = ap (λ ts. take link.handed ts) same
    ∙ take-take link.handed n logged sound.handed in
    ap (λ ts. concat ts ++ waiting_text flow) (sym front)
    ∙ (sym (concat-append (take link.handed texts) (drop link.handed texts))
    ∙ (ap (λ ts. concat ts) (take-append-drop link.handed texts) ∙ ap (λ ts. concat ts) same))

-- However it is answered, a Hand leads the core on.
pub hands : (old new : Sim) (c number : ℕ) (reply : StepReply) (place after : Seat) (kept kept' : Connection)
    (passes : ℕ) → Finds old c number place → slice_get old.connections.items number ≡ Some kept → 0 < passes →
    ((flow : Flow) → IsConn place.conn flow → flow.broken ≡ false → flow.handed + passes ≡ length (all_texts flow))
    → ((flow : Flow) → IsConn place.conn flow → IsTrue flow.broken → passes ≡ 0) →
    HandsInto place.conn kept.handed.items reply after.conn kept'.handed.items → after.current ≡ place.current
    → Differs old new c after → new.connections.items ≡ slice_set old.connections.items number kept' →
    kept'.seat ≡ kept.seat → kept'.ended ≡ kept.ended → kept'.broken ≡ kept.broken → kept'.fed ≡ kept.fed
    → StepsByEvent old (Hand c) reply new
unfolding Stands
hands old new c number reply place after kept kept' passes finds at_kept some pass none into same differs connections
    seat ended broken fed sizes w world =
    let f = found sizes w old c number place world finds.here finds.current in
    let link = f.0 in
    let at = f.1 in
    let s = f.2 in
    let flow = flow_of sizes link s.lent s.accepted in
    let own = of_asker number w.log in
    let law = world.law.links number link at.here in
    let h = world.keeps number link kept at.here at_kept in
    let whole : link.broken ≡ false = elim link.broken as (λ b. link.broken ≡ b → link.broken ≡ false) [
      | false ↦ λ is. is
      | true ↦ λ is. let zero_passes = none flow s.is is in absurd (omega (arith, zero_passes, some))
    ] refl in
    let count = pass flow s.is whole in
    let turn = is_turn sizes own link place.conn law s in
    let within = turn.within in
    let next_come : HasCome sizes.shards link.taken link.received (link.handed + 1) =
    come_back sizes own link (link.handed + 1) law
    (come_from_count sizes.shards (link.handed + 1) link.taken s.accepted (received_by link own) s.fits
    (omega (arith, count, some))) in
    let allows : Allows sizes w (Hand c) number link = (at, omega (arith, count, some, within), next_come, whole) in
    elim reply as (λ r. HandsInto place.conn kept.handed.items r after.conn kept'.handed.items → (w' : World)
    × Happens sizes w (Hand c) r w' × IsWorld sizes new w') [
      | replied.Done ↦ λ done.
          let d = done flow s.is whole in
          let n = length (all_texts flow) in
          let next : Link = record link { handed = n } in
          let w' = with_link w number next in
          let happens : Happens sizes w (Hand c) Done w' = (number, link, allows, (n, turn, refl)) in
          let law' = event_kept sizes w (Hand c) Done w' world.within.shards.0 happens world.law in
          let serving : IsServing sizes own next after.conn =
          record {
            lent = s.lent;
            accepted = s.accepted;
            is = subst (λ m. IsConn after.conn (record flow { handed = m })) d.all d.now;
            fits = s.fits;
          } in
          let keeps : KeepsLink sizes w' number next kept' = record {
            seat = seat ∙ h.seat;
            ended = ended ∙ h.ended;
            broken = broken ∙ h.broken;
            fed = ap (λ v. v.items) fed ∙ h.fed;
            handed =
                d.bytes ∙ (ap (λ xs. xs ++ waiting_text flow) h.handed
                ∙ handed_now sizes w number link place.conn law s);
          } in (
            w',
            happens,
            seat_stays sizes w old new c number link next place after world finds at refl law' differs same serving
                (kept_set sizes w' number next old.connections.items new.connections.items kept kept' at_kept
                connections keeps)
                (λ t. refl) refl refl,
          )
      | replied.Idle ↦ λ never. absurd (never flow s.is whole)
      | replied.NoMemory ↦ λ stays.
          let d = stays flow s.is whole in
          let is : SeatIs sizes w c after.conn after.current =
          subst (λ o. SeatIs sizes w c after.conn o) (sym (same ∙ finds.current))
          (link, at, record { lent = s.lent; accepted = s.accepted; is = d.1; fits = s.fits }) in
          let keeps : KeepsLink sizes w number link kept' =
          record {
            seat = seat ∙ h.seat;
            ended = ended ∙ h.ended;
            broken = broken ∙ h.broken;
            fed = ap (λ v. v.items) fed ∙ h.fed;
            handed = d.0 ∙ h.handed;
          } in (
            w,
            ((tt, (number, link, allows)), refl),
            world_again sizes w c number link old new world at.here
                (seats_set sizes w c old.seats.items new.seats.items place after finds.here differs.seats is)
                (kept_set sizes w number link old.connections.items new.connections.items kept kept' at_kept connections
                keeps)
                differs.log
                (subst (λ rings. AreWired sizes rings world.wires) (sym differs.rings) world.wired),
          )
    ] into

-- No reply's turn has come.
pub hands_none : (old new : Sim) (c number passes : ℕ) (place : Seat) → Finds old c number place
    → ((flow : Flow) → IsConn place.conn flow → flow.broken ≡ false → flow.handed + passes ≡ length (all_texts flow))
    → passes ≡ 0 → IsSame old new → StepsByEvent old (Hand c) replied.Idle new
unfolding Stands
hands_none old new c number passes place finds pass none same sizes w world =
    let f = found sizes w old c number place world finds.here finds.current in
    let link = f.0 in
    let at = f.1 in
    let s = f.2 in
    let own = of_asker number w.log in
    let law = world.law.links number link at.here in
    let flow = flow_of sizes link s.lent s.accepted in (
      w,
      (
        inl (λ e.
            let one = one_at w c number e.0 link e.1 at e.2.0 in
            let may : (link.handed < length link.taken)
            × HasCome sizes.shards link.taken link.received (link.handed + 1) × (link.broken ≡ false) =
            subst (λ (x : Link). (x.handed < length x.taken) × HasCome sizes.shards x.taken x.received (x.handed + 1)
            × (x.broken ≡ false)) (sym one.1) (e.2.1, e.2.2, e.2.3) in
            let less = may.0 in
            let count = pass flow s.is may.2 in
            let more = count_from_come sizes.shards (link.handed + 1) link.taken s.accepted (received_by link own)
            (omega (arith, less)) s.fits (come_on sizes own link (link.handed + 1) law may.1) in
            absurd (omega (arith, count, more, none))),
        refl,
      ),
      world_stays sizes w old new world same,
    )
