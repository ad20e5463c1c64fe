-- What a shard's actor records.
use Rattle.std.proofs.Common.{◌≡◌, ℕ, zero, suc, ◌<◌, ◌==◌, true, false, cond, List, [], ◌∷◌, ◌++◌, length, map, Some}
use Rattle.std.proofs.Common.{refl, sym, ap, subst, ◌∙◌, eq-eqb}
use Rattle.std.specs.Prelude.{slice_index_or}
use Rattle.std.proofs.lemmas.List.{length-map, map-append}
use Rattle.std.specs.List.{AllByRecursion, filter, slice_get}
use Rattle.std.specs.Option.{option_map_or}
use Rattle.std.proofs.lemmas.Option.{same_Some}
use Rattle.mc_ring.proofs.Lists.{get_below}
use Rattle.mc_conn.proofs.Gets.{get_front}
use Rattle.mc_split.specs.declared.plan.Piece.{Piece}
use Rattle.mc_store.specs.State.{State}
use Rattle.mc_ring.specs.Reply.{Shown}
use Rattle.mc_ring.specs.Route.{Name, Route}
use Rattle.mc_ring.specs.declared.request.Request.TheVariants as request
use Rattle.mc_item.specs.declared.answer.Answer.{Answer}
use Rattle.mc_model.specs.Log.{Entry, Run, of_asker, on_shard, pieces_in, replies_in, reply_to}
use Rattle.mc_model.specs.Sized.{empty_shard}
use Rattle.mc_history.specs.declared.event.Event.{Event}
use Rattle.mc_history.specs.declared.event.Event.TheVariants.{Ran}
use Rattle.mc_history.specs.declared.knowledge.Role.{Role}
use Rattle.mc_history.specs.declared.knowledge.Role.TheVariants.{Shard}
use Rattle.mc_model.specs.Grows.{Lengthens}
use Rattle.mc_model.proofs.Growing.{further}
use Rattle.mc_history.proofs.Lists.{lengthens_picked}
use Rattle.mc_history.specs.Allowed.{MayGive, MaySend}
use Rattle.mc_history.specs.Lawful.{IsHistory, MayFollow}
use Rattle.mc_history.specs.Roles.{is_own}
use Rattle.mc_history.specs.Tokens.{Acting, Adds, Sees, Sight}
use Rattle.mc_history.proofs.Holds.{holds}
use Rattle.mc_history.proofs.Channels.{on_shard-asked, work_grows, work_seat}
use Rattle.mc_history.proofs.Later.{ran_stays}
use Rattle.mc_history.proofs.Seeing.{added_entry, heard_entries}
use Rattle.mc_history.proofs.Turns.{channel_due}
use Rattle.mc_worker.specs.Scribe.{Runs}
use Rattle.mc_history.specs.Worlds.{is_on, ran_in, ran_on, seats_in, seats_of, work_on}
use Rattle.mc_record.specs.Recorder.{IsShardActor, log_in, next_asker, run_of, seated, shard_of}

-- The connection of an entry is one of so many.
abbrev pub IsAsked : ℕ → Entry → Type 0
IsAsked opened entry = entry.asker < opened

get_or : (seats : List ℕ) (k seat : ℕ) → slice_get seats k ≡ Some seat → slice_index_or seats k 0 ≡ seat
get_or [] k seat here = absurd (cc here)
get_or (one ∷ seats) zero seat here = same_Some one seat here
get_or (one ∷ seats) (suc k) seat here = get_or seats k seat here

-- whether a connection is on a seat, by the one word and by the other
same_seat : (c : ℕ) (seats : List ℕ) (k : ℕ) → k < length seats → (slice_index_or seats k 0 == c) ≡ is_on c seats k
same_seat c seats k below =
    let at = get_below seats k below in
    ap (λ seat. seat == c) (get_or seats k at.0 at.1) ∙ sym (ap (λ o. option_map_or (λ one. one == c) o false) at.1)

-- The entries of a seat, by the record and by the history.
pub of_seat : (c : ℕ) (seats : List ℕ) (log : List Entry) → AllByRecursion (IsAsked (length seats)) log
    → of_asker c (map (seated seats) log) ≡ map (seated seats) (filter (λ entry. is_on c seats entry.asker) log)
of_seat c seats [] all = refl
of_seat c seats (entry ∷ log) all =
    let rest = of_seat c seats log all.1 in
    let one = seated seats entry in
    let mine = filter (λ (e : Entry). is_on c seats e.asker) log in
    ap (λ b. cond b (one ∷ of_asker c (map (seated seats) log)) (of_asker c (map (seated seats) log)))
    (same_seat c seats entry.asker all.0)
    ∙ elim (is_on c seats entry.asker) as
    (λ b. cond b (one ∷ of_asker c (map (seated seats) log)) (of_asker c (map (seated seats) log))
    ≡ map (seated seats) (cond b (entry ∷ mine) mine)) [
      | true ↦ ap (λ l. one ∷ l) rest
      | false ↦ rest
    ]

-- The record has the pieces and the replies.
pub seated_pieces : (seats : List ℕ) (log : List Entry) → pieces_in (map (seated seats) log) ≡ pieces_in log
seated_pieces seats [] = refl
seated_pieces seats (entry ∷ log) = ap (λ l. entry.piece ∷ l) (seated_pieces seats log)

-- so with the replies
pub seated_replies : (seats : List ℕ) (log : List Entry) → replies_in (map (seated seats) log) ≡ replies_in log
seated_replies seats [] = refl
seated_replies seats (entry ∷ log) = ap (λ l. reply_to entry ∷ l) (seated_replies seats log)

-- A run of the record is one of the log.
pub seated_run : (seats : List ℕ) (log : List Entry) (old new : State) → Run old (map (seated seats) log) new
    → Run old log new
seated_run seats [] old new run = run
seated_run seats (entry ∷ log) old new run = (run.0, run.1, seated_run seats log run.0 new run.2)

-- With more connections opened the record is the same.
pub seated_more : (seats more : List ℕ) (log : List Entry) → AllByRecursion (IsAsked (length seats)) log
    → map (seated (seats ++ more)) log ≡ map (seated seats) log
seated_more seats more [] all = refl
seated_more seats more (entry ∷ log) all =
    let at = get_below seats entry.asker all.0 in
    let same : slice_index_or (seats ++ more) entry.asker 0 ≡ slice_index_or seats entry.asker 0 =
    get_or (seats ++ more) entry.asker at.0 (get_front seats more entry.asker at.0 at.1)
    ∙ sym (get_or seats entry.asker at.0 at.1) in
    let with : ℕ → Entry = λ k. record entry { asker = k } in
    ap (λ k. with k ∷ map (seated (seats ++ more)) log) same
    ∙ ap (λ l. seated seats entry ∷ l) (seated_more seats more log all.1)

-- The connections of what the shard ran were opened.
pub asked_here : (actor : Acting) → IsShardActor actor
    → AllByRecursion (IsAsked (length (seats_in actor.events))) (on_shard (shard_of actor.role) (ran_in actor.events))
asked_here actor is =
    on_shard-asked actor.name.sizes (length (seats_in actor.events)) (shard_of actor.role) (ran_in actor.events)
    (holds actor.name.sizes actor.events is.lawful).owned

-- The record's pieces and replies of a seat are those of its channel.
pub channel_pieces : (actor : Acting) → IsShardActor actor → (seat : ℕ) → pieces_in (of_asker seat (log_in actor))
    ≡ pieces_in (ran_on seat (shard_of actor.role) actor.events)
channel_pieces actor is seat =
    let seats = seats_in actor.events in
    let log = on_shard (shard_of actor.role) (ran_in actor.events) in
    ap pieces_in (of_seat seat seats log (asked_here actor is))
    ∙ seated_pieces seats (filter (λ (e : Entry). is_on seat seats e.asker) log)

-- so are its replies
pub channel_replies : (actor : Acting) → IsShardActor actor → (seat : ℕ) → replies_in (of_asker seat (log_in actor))
    ≡ replies_in (ran_on seat (shard_of actor.role) actor.events)
channel_replies actor is seat =
    let seats = seats_in actor.events in
    let log = on_shard (shard_of actor.role) (ran_in actor.events) in
    ap replies_in (of_seat seat seats log (asked_here actor is))
    ∙ seated_replies seats (filter (λ (e : Entry). is_on seat seats e.asker) log)

-- the route of the channel from a seat
abbrev route_to : Acting → ℕ → Route
route_to actor seat = record { seat = seat; shard = shard_of actor.role; name = actor.name }

-- What the actor has seen allows the reply that its record has there.
pub gives : (actor : Acting) → IsShardActor actor → (seat : ℕ) (route : Route) (before : List Shown) (reply : Shown)
    → route ≡ route_to actor seat → slice_get (replies_in (of_asker seat (log_in actor))) (length before) ≡ Some reply
    → MayGive route before reply (record { name = actor.name; events = actor.events })
gives actor is seat route before reply at next =
    let allowed : MayGive (route_to actor seat) before reply (record { name = actor.name; events = actor.events }) = (
      record { name = refl; lawful = is.lawful },
      ap (λ l. slice_get l (length before)) (sym (channel_replies actor is seat)) ∙ next,
    ) in
    subst (λ (r : Route). MayGive r before reply (record { name = actor.name; events = actor.events })) (sym at) allowed

-- an actor once it has seen these events
abbrev seeing : Acting → List Event → Acting
seeing actor events = record { name = actor.name; role = actor.role; events = events }

abbrev acting_of : Name → Role → List Event → Acting
acting_of name role events = record { name = name; role = role; events = events }

-- who hears of others is the same actor, with more events
heard_is : (heard : List Event) (old new : Acting) → Sees heard old new → new ≡ seeing old new.events
heard_is heard old new sees =
    ap (λ n. acting_of n new.role new.events) sees.name ∙ ap (λ r. acting_of old.name r new.events) sees.role

-- What is known once the piece's token was heard.
record Heard (old : Acting) (seat : ℕ) (piece : Piece) (events : List Event) : Type 0 where
  k : ℕ
  same : on_shard (shard_of old.role) (ran_in events) ≡ on_shard (shard_of old.role) (ran_in old.events)
  asker : next_asker seat (seeing old events) ≡ k
  on_seat : slice_get (seats_in events) k ≡ Some seat
  next : slice_get {X = ℕ × Piece} (work_on old.name.sizes.shards seat (shard_of old.role) events)
      (length (ran_on seat (shard_of old.role) events)) ≡ Some (k, piece)

heard_next : (old new : Acting) (seat : ℕ) (piece : Piece) (sight : Sight) → IsShardActor old
    → Sees sight.events old new → IsHistory new.name.sizes new.events
    → MaySend (route_to old seat) (map request.Piece (pieces_in (of_asker seat (log_in old)))) (request.Piece piece)
    sight → Heard old seat piece new.events
heard_next old new seat piece sight is sees lawful' may =
    let sizes = old.name.sizes in
    let s = shard_of old.role in
    let lawful : IsHistory sizes new.events = subst (λ (n : Name). IsHistory n.sizes new.events) sees.name lawful' in
    let same = heard_entries s sight.events old new is.role sees in
    let ran = ran_stays sizes seat s old.events new.events lawful sees.more same in
    let pieces = pieces_in (of_asker seat (log_in old)) in
    let count : length (map request.Piece pieces) ≡ length (ran_on seat s new.events) =
    length-map pieces request.Piece
    ∙ (ap length (channel_pieces old is seat)
    ∙ (length-map (ran_on seat s old.events) (λ (e : Entry). e.piece) ∙ sym (ap length ran))) in
    let k = may.1.0 in
    let one : ℕ × Piece = (k, piece) in
    let grows = work_grows sizes seat s sight.events new.events lawful sees.heard_too in
    let here : slice_get (work_on sizes.shards seat s new.events) (length (map request.Piece pieces)) ≡ Some one =
    ap (λ ws. slice_get ws (length (map request.Piece pieces))) grows.1
    ∙ get_front (work_on sizes.shards seat s sight.events) grows.0 (length (map request.Piece pieces)) one may.1.1 in
    let next : slice_get (work_on sizes.shards seat s new.events) (length (ran_on seat s new.events)) ≡ Some one =
    ap (λ n. slice_get (work_on sizes.shards seat s new.events) n) (sym count) ∙ here in
    record {
      k = k;
      same = same;
      asker = ap (λ o. option_map_or (λ (w : ℕ × Piece). w.0) o 0) next;
      on_seat = work_seat sizes.shards seat s (length (ran_on seat s new.events)) k piece new.events next;
      next = next;
    }

-- The run may follow what the actor has seen then.
pub may_run : (old new : Acting) (seat : ℕ) (piece : Piece) (answer : Answer) (sight : Sight) → IsShardActor old
    → Sees sight.events old new → IsHistory new.name.sizes new.events
    → MaySend (route_to old seat) (map request.Piece (pieces_in (of_asker seat (log_in old)))) (request.Piece piece)
    sight → Runs (empty_shard old.name.sizes (shard_of old.role)) (log_in old) piece answer
    → (is_own new.role (run_of new seat piece answer) ≡ true)
    × MayFollow new.name.sizes new.events (run_of new seat piece answer)
may_run old new seat piece answer sight is sees lawful' may runs =
    let sizes = old.name.sizes in
    let s = shard_of old.role in
    let lawful : IsHistory sizes new.events = subst (λ (n : Name). IsHistory n.sizes new.events) sees.name lawful' in
    let heard = heard_next old new seat piece sight is sees lawful' may in
    let k = heard.k in
    let ran : Run (empty_shard sizes s) (on_shard s (ran_in new.events)) runs.before =
    subst (λ log. Run (empty_shard sizes s) log runs.before) (sym heard.same)
    (seated_run (seats_in old.events) (on_shard s (ran_in old.events)) (empty_shard sizes s) runs.before runs.ran) in
    let follows : MayFollow sizes new.events (Ran s k piece answer) = (
      is.within,
      record { seat = seat; on_seat = heard.on_seat; next = heard.next },
      record {
        shard_is = refl;
        asker_is = refl;
        next = channel_due sizes seat s k piece new.events lawful heard.on_seat heard.next;
        before = runs.before;
        after = runs.after;
        left = ran;
        step = runs.step;
      },
    ) in
    let own : is_own old.role (Ran s k piece answer) ≡ true = ap (λ r. is_own r (Ran s k piece answer)) is.role
    ∙ eq-eqb s s refl in
    let all : (is_own old.role (Ran s (next_asker seat (seeing old new.events)) piece answer) ≡ true)
    × MayFollow sizes new.events (Ran s (next_asker seat (seeing old new.events)) piece answer) =
    subst (λ j. (is_own old.role (Ran s j piece answer) ≡ true) × MayFollow sizes new.events (Ran s j piece answer))
    (sym heard.asker) (own, follows) in
    subst (λ (a : Acting). (is_own a.role (run_of a seat piece answer) ≡ true)
    × MayFollow a.name.sizes a.events (run_of a seat piece answer)) (sym (heard_is sight.events old new sees)) all

-- What was run is recorded, with the seat that it was run for.
pub run_recorded : (old heard new : Acting) (seat : ℕ) (piece : Piece) (answer : Answer) (sight : Sight)
    → IsShardActor old → Sees sight.events old heard → IsHistory heard.name.sizes heard.events
    → MaySend (route_to old seat) (map request.Piece (pieces_in (of_asker seat (log_in old)))) (request.Piece piece)
    sight → Adds (run_of heard seat piece answer) heard new
    → log_in new ≡ log_in old ++ record { shard = shard_of old.role; asker = seat; piece = piece; answer = answer } ∷ []
run_recorded old heard new seat piece answer sight is sees lawful may adds =
    let s = shard_of old.role in
    let next = heard_next old heard seat piece sight is sees lawful may in
    let k = next.k in
    let role : heard.role ≡ Shard s = sees.role ∙ is.role in
    let shard : shard_of heard.role ≡ s = ap shard_of sees.role in
    let asker : next_asker seat heard ≡ k = ap (next_asker seat) (heard_is sight.events old heard sees) ∙ next.asker in
    let event : run_of heard seat piece answer ≡ Ran s k piece answer =
    ap (λ t. Ran t (next_asker seat heard) piece answer) shard ∙ ap (λ j. Ran s j piece answer) asker in
    let adds' : Adds (Ran s k piece answer) heard new = subst (λ (e : Event). Adds e heard new) event adds in
    let entry : Entry = record { shard = s; asker = k; piece = piece; answer = answer } in
    let ran : on_shard s (ran_in new.events) ≡ on_shard s (ran_in old.events) ++ entry ∷ [] =
    added_entry s k piece answer heard new role adds' ∙ ap (λ log. log ++ entry ∷ []) next.same in
    let grown : Lengthens heard.events new.events =
    further heard.events adds'.before new.events adds'.more (Ran s k piece answer ∷ [], adds'.events) in
    let all : Lengthens old.events new.events = further old.events heard.events new.events sees.more grown in
    let seats = lengthens_picked seats_of old.events new.events all in
    let later = lengthens_picked seats_of heard.events new.events grown in
    let there : slice_get (seats_in new.events) k ≡ Some seat = ap (λ ss. slice_get ss k) later.1
    ∙ get_front (seats_in heard.events) later.0 k seat next.on_seat in
    let log = on_shard s (ran_in old.events) in
    let with : ℕ → Entry = λ c. record { shard = s; asker = c; piece = piece; answer = answer } in
    ap (λ t. map (seated (seats_in new.events)) (on_shard t (ran_in new.events))) (ap shard_of (adds'.role ∙ sees.role))
    ∙ (ap (map (seated (seats_in new.events))) ran
    ∙ (map-append (seated (seats_in new.events)) log (entry ∷ [])
    ∙ (ap (λ c. map (seated (seats_in new.events)) log ++ with c ∷ []) (get_or (seats_in new.events) k seat there)
    ∙ ap (λ l. l ++ with seat ∷ [])
    (ap (λ ss. map (seated ss) log) seats.1 ∙ seated_more (seats_in old.events) seats.0 log (asked_here old is)))))
