-- What a seat's actor records.
use Rattle.std.proofs.Common.{◌≡◌, ℕ, zero, suc, ◌+◌, ◌-◌, true, List, [], ◌∷◌, ◌++◌, length, map, drop, Some, refl}
use Rattle.std.proofs.Common.{sym, ap, subst, ◌∙◌, arith, append-nil, eq-eqb, length-append}
use Rattle.std.specs.List.{AllByRecursion, slice_get}
use Rattle.std.proofs.lemmas.List.{append_cancel_right, map-append}
use Rattle.std.proofs.lemmas.List.Concat.{flat_map-append}
use Rattle.std.proofs.lemmas.Option.{same_Some}
use Rattle.mc_wire.specs.Sink.{Sight}
use Rattle.mc_ring.proofs.Lists.{get_map}
use Rattle.mc_ring.specs.declared.request.Request.{Request}
use Rattle.mc_ring.specs.declared.request.Request.TheVariants as request
use Rattle.mc_ring.specs.Reply.{Shown}
use Rattle.mc_ring.specs.Route.{Name, Route}
use Rattle.mc_split.specs.declared.plan.Piece.{Piece}
use Rattle.mc_conn.proofs.Gets.{get_front}
use Rattle.mc_conn.specs.Due.{due, channel, pieces_from}
use Rattle.mc_conn.specs.Fits.{IsReplyTo}
use Rattle.mc_conn.specs.History.{MayBeTaken, Taken}
use Rattle.mc_conn.proofs.Fitting.{due-append}
use Rattle.mc_model.specs.Grows.{Lengthens}
use Rattle.mc_model.specs.Log.{Entry, replies_in, reply_to}
use Rattle.mc_model.proofs.Growing.{further}
use Rattle.mc_history.specs.declared.event.Event.{Event}
use Rattle.mc_history.specs.declared.event.Event.TheVariants.{Opened}
use Rattle.mc_history.specs.declared.knowledge.Role.{Role}
use Rattle.mc_history.specs.declared.knowledge.Role.TheVariants.{Seat}
use Rattle.mc_history.specs.Allowed.{IsDueNext, MayGive, MaySend}
use Rattle.mc_history.specs.Lawful.{IsHistory, MayFollow}
use Rattle.mc_history.specs.Roles.{is_own, own_part, seat_of}
use Rattle.mc_history.specs.Tokens.{Acting, Adds, Sees, Sight as Shows, TakesAll}
use Rattle.mc_history.specs.Worlds.{IsLastOn, asked, numbers_on, ran_on, seats_in, seats_of, taken_in, took, work_on}
use Rattle.mc_history.proofs.Holds.{holds}
use Rattle.mc_history.proofs.Channels.{last_number}
use Rattle.mc_history.proofs.Later.{last_stays, taken_own}
use Rattle.mc_history.proofs.Roles.{own_yes}
use Rattle.mc_history.proofs.Seats.{ran_grows, seats_took, taken_same, work_opened, work_stays, work_took}
use Rattle.mc_history.proofs.Seeing.{added_commands, added_opening, heard_commands, lawful_before, own_all, part_added}
use Rattle.mc_history.proofs.Seeing.{part_heard, part_of}
use Rattle.mc_transport.specs.Clerk.{AddsWork, IsDueAt}
use Rattle.mc_transport.specs.Place.{Place, bytes_seen}
use Rattle.mc_record.specs.Clerk.{HasOpened, IsSeatActor, answers_at, connection_of, last_after, place_of, taken_now}
use Rattle.mc_record.specs.Clerk.{work_at}

-- an actor with these events
abbrev with_events : Acting → List Event → Acting
with_events actor events = record { name = actor.name; role = actor.role; events = events }

abbrev acting_of : Name → Role → List Event → Acting
acting_of name role events = record { name = name; role = role; events = events }

is_with : (old new : Acting) → new.name ≡ old.name → new.role ≡ old.role → new ≡ with_events old new.events
is_with old new name role =
    ap (λ n. acting_of n new.role new.events) name ∙ ap (λ r. acting_of old.name r new.events) role

last_push : (d : ℕ) (front : List ℕ) (k : ℕ) → last_after d (front ++ k ∷ []) ≡ k
last_push d [] k = refl
last_push d (j ∷ front) k = last_push j front k

-- The connection that is the last on the seat is the one that the record names.
connection_is : (c k : ℕ) (events : List Event) → IsLastOn c k events → last_after 0 (numbers_on c 0 (seats_in events))
    ≡ k
connection_is c k events last =
    let ends = last_number c 0 k k (seats_in events) (omega arith) last.here last.last in
    ap (last_after 0) ends.is ∙ last_push 0 ends.front k

-- a connection is opened, and the record names it
named : (old : Acting) (k : ℕ) (events : List Event) → IsLastOn (seat_of old.role) k events
    → HasOpened (with_events old events) × (connection_of (with_events old events) ≡ k)
named old k events last =
    let c = seat_of old.role in
    let is = connection_is c k events last in
    (subst (λ j. IsLastOn c j events) (sym is) last, is)

answers_grow : (old : Acting) (events : List Event) (s : ℕ) → IsHistory old.name.sizes events
    → Lengthens old.events events → Lengthens (answers_at old s) (answers_at (with_events old events) s)
answers_grow old events s lawful more =
    let grows = ran_grows old.name.sizes (seat_of old.role) s old.events events lawful more in
    (map reply_to grows.0, ap replies_in grows.1 ∙ map-append reply_to (ran_on (seat_of old.role) s old.events) grows.0)

-- The place is that of the name and the connection.
pub same_place : (old new : Acting) → new.name ≡ old.name → connection_of new ≡ connection_of old → place_of new
    ≡ place_of old
same_place old new name number =
    let put : Name → ℕ → Sight → Place =
    λ n k begin. record { name = n; begun = true; number = k; begin = bytes_seen begin } in
    ap (λ n. put n (connection_of new)) name ∙ ap (λ k. put old.name k) number

lawful_with : (old new : Acting) → new.name ≡ old.name → IsHistory new.name.sizes new.events
    → IsHistory old.name.sizes new.events
lawful_with old new name lawful = subst (λ (n : Name). IsHistory n.sizes new.events) name lawful

-- what opening a connection makes of the record
pub record OpensConnection (old new : Acting) : Type 0 where
  pub opened : HasOpened new
  pub taken : taken_now new ≡ []
  pub work : (s : ℕ) → work_at new s ≡ work_at old s
  pub answers : (s : ℕ) → Lengthens (answers_at old s) (answers_at new s)
  pub number : length (seats_in new.events) - 1 ≡ connection_of new

-- A connection may be opened on the actor's seat.
pub may_open : (actor : Acting) → IsSeatActor actor → (is_own actor.role (Opened (seat_of actor.role)) ≡ true)
    × MayFollow actor.name.sizes actor.events (Opened (seat_of actor.role))
may_open actor is =
    let c = seat_of actor.role in
    (ap (λ r. is_own r (Opened c)) is.role ∙ eq-eqb c c refl, is.within)

-- The actor opens a connection.
pub opens : (old new : Acting) → IsSeatActor old → IsHistory new.name.sizes new.events
    → Adds (Opened (seat_of old.role)) old new → OpensConnection old new
opens old new is lawful' adds =
    let sizes = old.name.sizes in
    let c = seat_of old.role in
    let event = Opened c in
    let before = adds.before in
    let lawful = lawful_with old new adds.name lawful' in
    let first = lawful_before sizes before new.events (event ∷ [], adds.events) lawful in
    let opening = added_opening sizes c old new lawful adds in
    let is_named = named old (length (seats_in before)) new.events opening.0 in
    let same : own_part (Seat c) before ≡ own_part (Seat c) old.events =
    append_cancel_right (own_part (Seat c) before) (own_part (Seat c) old.events) (event ∷ [])
    (sym (own_yes (Seat c) before event (eq-eqb c c refl))
    ∙ (ap (own_part (Seat c)) (sym adds.events) ∙ part_added (Seat c) event old new is.role adds)) in
    let snd : ℕ × Piece → Piece = λ one. one.1 in
    let opened : OpensConnection old (with_events old new.events) = record {
      opened = is_named.0;
      taken = ap (λ k. taken_in k new.events) is_named.1 ∙ opening.1;
      work =
          λ s. ap (λ (h : List Event). map snd (work_on sizes.shards c s h)) adds.events
          ∙ ap (map snd) (work_opened sizes c s before first
          ∙ work_stays sizes c s old.events before first adds.more same);
      answers =
          λ s. answers_grow old new.events s lawful
          (further old.events before new.events adds.more (event ∷ [], adds.events));
      number =
          let one : length (seats_in new.events) ≡ length (seats_in before) + 1 =
          ap (λ (h : List Event). length (seats_in h)) adds.events
          ∙ (ap length (flat_map-append seats_of before (event ∷ [])) ∙ length-append (seats_in before) (c ∷ [])) in
          omega (arith, one) ∙ sym is_named.1;
    } in
    subst (λ (a : Acting). OpensConnection old a) (sym (is_with old new adds.name adds.role)) opened

-- And it is so once the actor has shown it.
pub opens_shown : (old new shown : Acting) → IsSeatActor old → IsHistory new.name.sizes new.events
    → Adds (Opened (seat_of old.role)) old new → shown ≡ new → OpensConnection old shown
opens_shown old new shown is lawful adds same =
    subst (λ (a : Acting). OpensConnection old a) (sym same) (opens old new is lawful adds)

-- what taking commands makes of it
pub record TakesCommands (taken : List Taken) (old new : Acting) : Type 0 where
  pub opened : HasOpened new
  pub taken_is : taken_now new ≡ taken_now old ++ taken
  pub work : (s : ℕ) → AddsWork old.name.sizes.shards s (taken_now old) (taken_now new) (work_at old s) (work_at new s)
  pub answers : (s : ℕ) → Lengthens (answers_at old s) (answers_at new s)
  pub number : connection_of new ≡ connection_of old

-- What is behind the first elements of a list.
pub drop_front : {X : Type 0} (xs ys : List X) → drop (length xs) (xs ++ ys) ≡ ys
drop_front [] ys = refl
drop_front (x ∷ xs) ys = drop_front xs ys

all_behind : {X : Type 0} (P : X → Type 0) (xs ys : List X) → AllByRecursion P (xs ++ ys) → AllByRecursion P ys
all_behind P [] ys all = all
all_behind P (x ∷ xs) ys all = all_behind P xs ys all.1

-- The commands beyond what is recorded are what it has to take.
pub beyond : (some all : List Taken) → Lengthens some all → AllByRecursion MayBeTaken all
    → (some ++ drop (length some) all ≡ all) × AllByRecursion MayBeTaken (drop (length some) all)
beyond some all more may =
    let is : drop (length some) all ≡ more.0 = ap (λ l. drop (length some) l) more.1 ∙ drop_front some more.0 in (
      ap (λ l. some ++ l) is ∙ sym more.1,
      subst (AllByRecursion MayBeTaken) (sym is)
          (all_behind MayBeTaken some more.0 (subst (AllByRecursion MayBeTaken) more.1 may)),
    )

seconds : (k : ℕ) (pieces : List Piece) → map (λ (one : ℕ × Piece). one.1) (map (λ piece. (k, piece)) pieces) ≡ pieces
seconds k [] = refl
seconds k (piece ∷ pieces) = ap (λ ps. piece ∷ ps) (seconds k pieces)

seats_kept : (c k : ℕ) (taken : List Taken) (past : List Event) → seats_in (past ++ map (took c k) taken)
    ≡ seats_in past
seats_kept c k taken past =
    flat_map-append seats_of past (map (took c k) taken)
    ∙ (ap (λ ss. seats_in past ++ ss) (seats_took c k taken) ∙ append-nil (seats_in past))

-- The seat's last connection takes commands.
pub takes_commands : (taken : List Taken) (old new : Acting) → IsSeatActor old → HasOpened old
    → IsHistory new.name.sizes new.events → TakesAll (connection_of old) taken old new → TakesCommands taken old new
takes_commands taken old new is last lawful' takes =
    let sizes = old.name.sizes in
    let c = seat_of old.role in
    let k = connection_of old in
    let events = map (took c k) taken in
    let before = takes.before in
    let lawful = lawful_with old new takes.name lawful' in
    let first = lawful_before sizes before new.events (events, takes.events) lawful in
    let own = taken_own (Seat c) c k taken refl in
    let part : own_part (Seat c) new.events ≡ own_part (Seat c) old.events ++ events =
    sym (part_of (Seat c) new (takes.role ∙ is.role))
    ∙ (takes.own ∙ ap (λ p. p ++ events) (part_of (Seat c) old is.role)) in
    let same : own_part (Seat c) before ≡ own_part (Seat c) old.events =
    append_cancel_right (own_part (Seat c) before) (own_part (Seat c) old.events) events
    (sym (own_all (Seat c) before events own) ∙ (ap (own_part (Seat c)) (sym takes.events) ∙ part)) in
    let was : IsLastOn c k before = last_stays c k old.events before takes.more same last in
    let seats : seats_in new.events ≡ seats_in before = ap seats_in takes.events ∙ seats_kept c k taken before in
    let now : IsLastOn c k new.events = record {
      here = ap (λ ss. slice_get ss k) seats ∙ was.here;
      last = λ later after at. was.last later after (sym (ap (λ ss. slice_get ss later) seats) ∙ at);
    } in
    let is_named = named old k new.events now in
    let kept : taken_in k before ≡ taken_in k old.events =
    taken_same sizes c k old.events before first takes.more same last.here in
    let all : taken_now (with_events old new.events) ≡ taken_now old ++ taken =
    ap (λ j. taken_in j new.events) is_named.1
    ∙ added_commands sizes c k taken old new lawful last.here is.role takes in
    let snd : ℕ × Piece → Piece = λ one. one.1 in
    let took_so : TakesCommands taken old (with_events old new.events) = record {
      opened = is_named.0;
      taken_is = all;
      work = λ s.
          let more = channel s (pieces_from sizes.shards (0 + length (taken_in k old.events)) taken) in
          let work = work_on sizes.shards c s old.events in
          record {
            added = more;
            due_is = ap (λ ts. due sizes.shards s ts) all ∙ due-append sizes.shards s (taken_now old) taken;
            work_is = ap (λ (h : List Event). map snd (work_on sizes.shards c s h)) takes.events
                ∙ (ap (map snd) (work_took sizes c s k taken before was)
                ∙ (ap (λ ts. map snd (work_on sizes.shards c s before
                ++ map (λ piece. (k, piece)) (channel s (pieces_from sizes.shards (0 + length ts) taken)))) kept
                ∙ (ap (λ ws. map snd (ws ++ map (λ piece. (k, piece)) more))
                (work_stays sizes c s old.events before first takes.more same)
                ∙ (map-append snd work (map (λ piece. (k, piece)) more)
                ∙ ap (λ ps. map snd work ++ ps) (seconds k more)))));
          };
      answers =
          λ s. answers_grow old new.events s lawful
          (further old.events before new.events takes.more (events, takes.events));
      number = is_named.1;
    } in
    subst (λ (a : Acting). TakesCommands taken old a) (sym (is_with old new takes.name takes.role)) took_so

-- the route of the channel to a shard
abbrev pub route_from : Acting → ℕ → Route
route_from actor shard = record { seat = seat_of actor.role; shard = shard; name = actor.name }

get_second : (work : List (ℕ × Piece)) (n : ℕ) (piece : Piece) → slice_get (map (λ (one : ℕ × Piece). one.1) work) n
    ≡ Some piece → (k : ℕ) × (slice_get work n ≡ Some (k, piece))
get_second [] n piece here = absurd (cc here)
get_second (one ∷ work) zero piece here = (one.0, ap (λ p. Some (one.0, p)) (same_Some one.1 piece here))
get_second (one ∷ work) (suc n) piece here = get_second work n piece here

due_of : (actor : Acting) (shard : ℕ) (before : List Request) (one : Request)
    → IsDueAt (work_at actor shard) (length before) one
    → IsDueNext (route_from actor shard) (length before) one actor.events
due_of actor shard before request.End next = tt
due_of actor shard before (request.Piece piece) next =
    get_second (work_on actor.name.sizes.shards (seat_of actor.role) shard actor.events) (length before) piece next

-- What the actor has seen allows the request that is due there.
pub sends : (actor : Acting) → IsSeatActor actor → (shard : ℕ) (route : Route) (before : List Request) (one : Request)
    → route ≡ route_from actor shard → IsDueAt (work_at actor shard) (length before) one
    → MaySend route before one (record { name = actor.name; events = actor.events })
sends actor is shard route before one at next =
    let sight : Shows = record { name = actor.name; events = actor.events } in
    subst (λ (r : Route). MaySend r before one sight) (sym at)
    (record { name = refl; lawful = is.lawful }, due_of actor shard before one next)

-- what hearing of others makes of the record
pub record HearsOfOthers (old new : Acting) : Type 0 where
  pub opened : HasOpened old → HasOpened new
  pub taken : HasOpened old → taken_now new ≡ taken_now old
  pub work : (s : ℕ) → work_at new s ≡ work_at old s
  pub answers : (s : ℕ) → Lengthens (answers_at old s) (answers_at new s)
  pub number : HasOpened old → connection_of new ≡ connection_of old

-- The actor hears of others, and does nothing itself.
pub hears_of : (heard : List Event) (old new : Acting) → IsSeatActor old → IsHistory new.name.sizes new.events
    → Sees heard old new → HearsOfOthers old new
hears_of heard old new is lawful' sees =
    let sizes = old.name.sizes in
    let c = seat_of old.role in
    let k = connection_of old in
    let lawful = lawful_with old new sees.name lawful' in
    let same : own_part (Seat c) new.events ≡ own_part (Seat c) old.events =
    part_heard (Seat c) heard old new is.role sees in
    let snd : ℕ × Piece → Piece = λ one. one.1 in
    let hears : HearsOfOthers old (with_events old new.events) = record {
      opened = λ last. (named old k new.events (last_stays c k old.events new.events sees.more same last)).0;
      taken =
          λ last. ap (λ j. taken_in j new.events)
          (named old k new.events (last_stays c k old.events new.events sees.more same last)).1
          ∙ heard_commands sizes c k heard old new lawful last.here is.role sees;
      work = λ s. ap (map snd) (work_stays sizes c s old.events new.events lawful sees.more same);
      answers = λ s. answers_grow old new.events s lawful sees.more;
      number = λ last. (named old k new.events (last_stays c k old.events new.events sees.more same last)).1;
    } in
    subst (λ (a : Acting). HearsOfOthers old a) (sym (is_with old new sees.name sees.role)) hears

-- What a reply is once its token was heard.
pub record IsHeard (old new : Acting) (shard : ℕ) (before : List Shown) (reply : Shown) : Type 0 where
  pub answer : slice_get (answers_at new shard) (length before) ≡ Some reply
  pub fits : (piece : Piece) → slice_get (work_at old shard) (length before) ≡ Some piece → IsReplyTo piece reply

-- a reply in its place among those to a log
record IsAnswer (log : List Entry) (n : ℕ) (reply : Shown) : Type 0 where
  entry : Entry
  here : slice_get log n ≡ Some entry
  is : reply_to entry ≡ reply

answer_at : (log : List Entry) (n : ℕ) (reply : Shown) → slice_get (replies_in log) n ≡ Some reply
    → IsAnswer log n reply
answer_at [] n reply here = absurd (cc here)
answer_at (entry ∷ log) zero reply here =
    record { entry = entry; here = refl; is = same_Some (reply_to entry) reply here }
answer_at (entry ∷ log) (suc n) reply here =
    let at = answer_at log n reply here in
    record { entry = at.entry; here = at.here; is = at.is }

replies_to : (entry : Entry) (piece : Piece) (reply : Shown) → reply_to entry ≡ reply → entry.piece ≡ piece
    → IsReplyTo piece reply
replies_to entry piece reply is at =
    subst (λ r. IsReplyTo piece r) is
    (subst (λ p. IsReplyTo p (reply_to entry)) at (record { ticket = refl; part = refl; kind = refl }))

-- The reply answers the piece in its place.
pub hears_reply : (old new : Acting) (sight : Shows) (shard : ℕ) (before : List Shown) (reply : Shown) → IsSeatActor old
    → IsHistory new.name.sizes new.events → Sees sight.events old new
    → MayGive (route_from old shard) before reply sight
    → IsHeard old new shard before reply
hears_reply old new sight shard before reply is lawful' sees may =
    let sizes = old.name.sizes in
    let c = seat_of old.role in
    let n = length before in
    let lawful = lawful_with old new sees.name lawful' in
    let same : own_part (Seat c) new.events ≡ own_part (Seat c) old.events =
    part_heard (Seat c) sight.events old new is.role sees in
    let ran = ran_grows sizes c shard sight.events new.events lawful sees.heard_too in
    let shown : slice_get (replies_in (ran_on c shard new.events)) n ≡ Some reply =
    ap (λ es. slice_get (replies_in es) n) ran.1
    ∙ (ap (λ rs. slice_get rs n) (map-append reply_to (ran_on c shard sight.events) ran.0)
    ∙ get_front (replies_in (ran_on c shard sight.events)) (replies_in ran.0) n reply may.1) in
    let at = answer_at (ran_on c shard new.events) n reply shown in
    let entry = at.entry in
    let channel = (holds sizes new.events lawful).channels c shard in
    let work : slice_get (work_on sizes.shards c shard old.events) n ≡ Some (asked entry) =
    ap (λ ws. slice_get ws n)
    (sym (work_stays sizes c shard old.events new.events lawful sees.more same) ∙ sym channel.1)
    ∙ get_front (map asked (ran_on c shard new.events)) channel.0 n (asked entry)
    (get_map asked (ran_on c shard new.events) n entry at.here) in
    let snd : ℕ × Piece → Piece = λ one. one.1 in
    let heard : IsHeard old (with_events old new.events) shard before reply = record {
      answer = shown;
      fits = λ piece there.
          replies_to entry piece reply at.is
          (same_Some entry.piece piece
          (sym (get_map snd (work_on sizes.shards c shard old.events) n (asked entry) work) ∙ there));
    } in
    subst (λ (a : Acting). IsHeard old a shard before reply) (sym (is_with old new sees.name sees.role)) heard
