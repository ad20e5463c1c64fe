-- What is due on a channel only grows at its end, and what was run there is its beginning.
use Rattle.std.proofs.Common.{◌≡◌, ◌≢◌, ℕ, zero, suc, ◌+◌, ◌<◌, ◌==◌, Bool, true, false, cond, inl, inr, List, [], ◌∷◌}
use Rattle.std.proofs.Common.{◌++◌, length, map, Some, refl, sym, ap, subst, ◌∙◌, arith, append-nil, append_assoc}
use Rattle.std.proofs.Common.{eq-eqb, eqb-true, ne_eqb}
use Rattle.std.specs.List.{AllByRecursion, filter, flat_map, slice_get}
use Rattle.std.specs.Option.{option_map_or}
use Rattle.std.proofs.lemmas.Bool.Decides.{eqb_tells}
use Rattle.std.proofs.lemmas.List.{length-map, map-append}
use Rattle.std.proofs.lemmas.List.Concat.{flat_map-append}
use Rattle.std.proofs.lemmas.Option.{same_Some}
use Rattle.mc_ring.proofs.Lists.{all_append, all_at, all_weaken, get_below}
use Rattle.mc_sizes.specs.declared.sizes.Sizes.{Sizes}
use Rattle.mc_split.specs.declared.plan.Piece.{Piece}
use Rattle.mc_conn.specs.History.{Taken}
use Rattle.mc_conn.specs.Due.{due, channel, pieces_from}
use Rattle.mc_conn.proofs.Fitting.{due-append}
use Rattle.mc_conn.proofs.Gets.{get_front}
use Rattle.mc_model.specs.Grows.{Lengthens}
use Rattle.mc_model.specs.Log.{Entry, on_shard}
use Rattle.mc_model.proofs.Growing.{further, stays}
use Rattle.mc_model.proofs.Logs.{on_shard-no, on_shard-yes}
use Rattle.mc_history.specs.declared.event.Event.{Event}
use Rattle.mc_history.specs.declared.event.Event.TheVariants.{Opened, Took, Ran}
use Rattle.mc_history.specs.Worlds.{asked, entries_of, is_on, numbers_on, ran_in, ran_on, seats_in, seats_of, taken_in}
use Rattle.mc_history.specs.Worlds.{taken_of, work_of, work_on}
use Rattle.mc_history.specs.Lawful.{IsHistory, IsNextOnChannel, MayFollow}
use Rattle.mc_history.proofs.Lists.{Begins, all_filter, begins_longer, begins_next, filter_no, filter_same, filter_yes}
use Rattle.mc_history.proofs.Lists.{flat_same, picked_push}
use Rattle.mc_history.proofs.Follows.{follow_back, holds_of_all}

-- The connections on a seat, with more opened, are those of before, and then others.
numbers_longer : (c n : ℕ) (seats more : List ℕ) → Lengthens (numbers_on c n seats) (numbers_on c n (seats ++ more))
numbers_longer c n [] more = (numbers_on c n more, refl)
numbers_longer c n (seat ∷ seats) more =
    let rest = numbers_longer c (n + 1) seats more in
    let old = numbers_on c (n + 1) seats in
    let new = numbers_on c (n + 1) (seats ++ more) in
    elim (seat == c) as (λ b. Lengthens (cond b (n ∷ old) old) (cond b (n ∷ new) new)) [
      | true ↦ (rest.0, ap (λ ks. n ∷ ks) rest.1)
      | false ↦ rest
    ]

-- none is there where no seat is this one
none_on : (c n : ℕ) (seats : List ℕ) → ((i : ℕ) → slice_get seats i ≢ Some c) → numbers_on c n seats ≡ []
none_on c n [] none = refl
none_on c n (seat ∷ seats) none =
    let rest = numbers_on c (n + 1) seats in
    ap (λ b. cond b (n ∷ rest) rest) (ne_eqb seat c (λ same. none 0 (ap Some same)))
    ∙ none_on c (n + 1) seats (λ i at. none (suc i) at)

-- The last of these numbers is this one, and the others are below it.
pub record EndsWith (k : ℕ) (numbers : List ℕ) : Type 0 where
  pub front : List ℕ
  pub is : numbers ≡ front ++ k ∷ []
  pub below : AllByRecursion (λ j. j < k) front

-- The last connection on a seat is the last of the seat's numbers.
pub last_number : (c n i k : ℕ) (seats : List ℕ) → k ≡ n + i → slice_get seats i ≡ Some c
    → ((later : ℕ) → i < later → slice_get seats later ≢ Some c) → EndsWith k (numbers_on c n seats)
last_number c n i k [] is here last = absurd (cc here)
last_number c n zero k (seat ∷ seats) is here last =
    let rest = numbers_on c (n + 1) seats in
    let none : rest ≡ [] = none_on c (n + 1) seats (λ i at. last (suc i) (omega arith) at) in
    record {
      front = [];
      is =
          ap (λ b. cond b (n ∷ rest) rest) (eq-eqb seat c (same_Some seat c here))
          ∙ (ap (λ ks. n ∷ ks) none ∙ ap (λ j. j ∷ []) (omega (arith, is)));
      below = tt;
    }
last_number c n (suc i) k (seat ∷ seats) is here last =
    let more = last_number c (n + 1) i k seats (omega (arith, is)) here
    (λ later after at. last (suc later) (omega (arith, after)) at) in
    let rest = numbers_on c (n + 1) seats in
    elim (seat == c) as (λ b. EndsWith k (cond b (n ∷ rest) rest)) [
      | true ↦ record {
        front = n ∷ more.front;
        is = ap (λ ks. n ∷ ks) more.is;
        below = (omega (arith, is), more.below);
      }
      | false ↦ more
    ]

-- The connection has this seat.
abbrev pub HasSeat : ℕ → ℕ → List ℕ → ℕ → Type 0
HasSeat c n seats j = (i : ℕ) × (j ≡ n + i) × (slice_get seats i ≡ Some c)

-- each connection on a seat
pub numbers_seats : (c n : ℕ) (seats : List ℕ) → AllByRecursion (HasSeat c n seats) (numbers_on c n seats)
numbers_seats c n [] = tt
numbers_seats c n (seat ∷ seats) =
    let rest = numbers_on c (n + 1) seats in
    let all = all_weaken (HasSeat c (n + 1) seats) (HasSeat c n (seat ∷ seats))
    (λ j at. let is = at.1 in (suc at.0, omega (arith, is), at.2)) rest (numbers_seats c (n + 1) seats) in
    elim (seat == c) as (λ b. (seat == c) ≡ b → AllByRecursion (HasSeat c n (seat ∷ seats)) (cond b (n ∷ rest) rest)) [
      | true ↦ λ is. ((0, omega arith, ap Some (eqb-true seat c is)), all)
      | false ↦ λ is. all
    ] refl

-- the work of a connection with an event more: what was due, and what the event makes due
work_more : (shards s : ℕ) (past : List Event) (event : Event) (k : ℕ)
    → Lengthens (work_of shards s past k) (work_of shards s (past ++ event ∷ []) k)
work_more shards s past event k =
    let taken = taken_in k past in
    let more = channel s (pieces_from shards (0 + length taken) (taken_of k event)) in
    let dues : due shards s (taken_in k (past ++ event ∷ [])) ≡ due shards s taken ++ more =
    ap (λ ts. due shards s ts) (picked_push (taken_of k) past event) ∙ due-append shards s taken (taken_of k event) in
    let with : Piece → ℕ × Piece = λ piece. (k, piece) in
    (map with more, ap (map with) dues ∙ map-append with (due shards s taken) more)

-- the work of a connection that took nothing at an event
pub work_same : (shards s : ℕ) (past : List Event) (event : Event) (k : ℕ) → taken_of k event ≡ []
    → work_of shards s past k ≡ work_of shards s (past ++ event ∷ []) k
work_same shards s past event k none =
    let with : Piece → ℕ × Piece = λ piece. (k, piece) in
    ap (λ ts. map with (due shards s ts))
    (sym (picked_push (taken_of k) past event ∙ (ap (λ ts. taken_in k past ++ ts) none ∙ append-nil (taken_in k past))))

-- an event at which no command is taken
idle_push : (shards c s : ℕ) (past : List Event) (event : Event) → ((k : ℕ) → taken_of k event ≡ [])
    → Lengthens (work_on shards c s past) (work_on shards c s (past ++ event ∷ []))
idle_push shards c s past event none =
    let f = work_of shards s past in
    let g = work_of shards s (past ++ event ∷ []) in
    let old = numbers_on c 0 (seats_in past) in
    let longer = numbers_longer c 0 (seats_in past) (seats_of event) in
    let numbers : numbers_on c 0 (seats_in (past ++ event ∷ [])) ≡ old ++ longer.0 =
    ap (numbers_on c 0) (picked_push seats_of past event) ∙ longer.1 in
    let same : flat_map f old ≡ flat_map g old =
    flat_same f g (HasSeat c 0 (seats_in past)) (λ k on. work_same shards s past event k (none k)) old
    (numbers_seats c 0 (seats_in past)) in (
      flat_map g longer.0,
      ap (flat_map g) numbers ∙ (flat_map-append g old longer.0 ∙ ap (λ ws. ws ++ flat_map g longer.0) (sym same)),
    )

-- the command is taken on this seat, by the last connection there
took_here : (shards c s : ℕ) (past : List Event) (event : Event) (k : ℕ) → seats_of event ≡ []
    → ((j : ℕ) → j ≢ k → taken_of j event ≡ []) → EndsWith k (numbers_on c 0 (seats_in past))
    → Lengthens (work_on shards c s past) (work_on shards c s (past ++ event ∷ []))
took_here shards c s past event k none others ends =
    let f = work_of shards s past in
    let g = work_of shards s (past ++ event ∷ []) in
    let front = ends.front in
    let numbers : numbers_on c 0 (seats_in (past ++ event ∷ [])) ≡ front ++ k ∷ [] =
    ap (numbers_on c 0) (picked_push seats_of past event
    ∙ (ap (λ ss. seats_in past ++ ss) none ∙ append-nil (seats_in past))) ∙ ends.is in
    let same : flat_map f front ≡ flat_map g front =
    flat_same f g (λ j. j < k)
    (λ j below. work_same shards s past event j (others j (λ at. absurd (omega (arith, below, at))))) front ends.below
    in
    let old : work_on shards c s past ≡ flat_map f front ++ f k =
    ap (flat_map f) ends.is ∙ (flat_map-append f front (k ∷ []) ∙ ap (λ ws. flat_map f front ++ ws) (append-nil (f k)))
    in
    let new : work_on shards c s (past ++ event ∷ []) ≡ flat_map g front ++ g k =
    ap (flat_map g) numbers ∙ (flat_map-append g front (k ∷ []) ∙ ap (λ ws. flat_map g front ++ ws) (append-nil (g k)))
    in
    let more = work_more shards s past event k in (
      more.0,
      new ∙ (ap (λ ws. ws ++ g k) (sym same)
          ∙ (ap (λ ws. flat_map f front ++ ws) more.1
          ∙ (sym (append_assoc (flat_map f front) (f k) more.0) ∙ ap (λ ws. ws ++ more.0) (sym old)))),
    )

-- the command is taken on another seat
took_elsewhere : (shards c s seat : ℕ) (past : List Event) (event : Event) (k : ℕ) → seats_of event ≡ []
    → ((j : ℕ) → j ≢ k → taken_of j event ≡ []) → slice_get (seats_in past) k ≡ Some seat → seat ≢ c
    → Lengthens (work_on shards c s past) (work_on shards c s (past ++ event ∷ []))
took_elsewhere shards c s seat past event k none others on other =
    let f = work_of shards s past in
    let g = work_of shards s (past ++ event ∷ []) in
    let seats = seats_in past in
    let numbers = ap (numbers_on c 0)
    (picked_push seats_of past event ∙ (ap (λ ss. seats ++ ss) none ∙ append-nil seats)) in
    let same : flat_map f (numbers_on c 0 seats) ≡ flat_map g (numbers_on c 0 seats) =
    flat_same f g (HasSeat c 0 seats)
    (λ j at. work_same shards s past event j (others j (λ is.
    let zeroed = at.1 in
    let there : slice_get seats k ≡ Some c = subst (λ i. slice_get seats i ≡ Some c) (omega (arith, is, zeroed)) at.2 in
    other (same_Some seat c (sym on ∙ there)))))
    (numbers_on c 0 seats) (numbers_seats c 0 seats) in (
      [],
      ap (flat_map g) numbers ∙ (sym same ∙ sym (append-nil (flat_map f (numbers_on c 0 seats)))),
    )

-- What is due on a channel is so after any event that may follow, and at its place.
work_push : (sizes : Sizes) (c s : ℕ) (past : List Event) (event : Event) → MayFollow sizes past event
    → Lengthens (work_on sizes.shards c s past) (work_on sizes.shards c s (past ++ event ∷ []))
work_push sizes c s past (Opened seat) may = idle_push sizes.shards c s past (Opened seat) (λ k. refl)
work_push sizes c s past (Ran shard asker piece answer) may =
    idle_push sizes.shards c s past (Ran shard asker piece answer) (λ k. refl)
work_push sizes c s past (Took seat k command moment server given_up) may =
    let event = Took seat k command moment server given_up in
    let one : Taken = record { entry = command; moment = moment; server = server; given_up = given_up } in
    let others : (j : ℕ) → j ≢ k → taken_of j event ≡ [] =
    λ j other. ap (λ b. cond b (one ∷ []) []) (ne_eqb k j (λ same. other (sym same))) in
    elim (eqb_tells seat c) [
      | inl same ↦
          let here : slice_get (seats_in past) k ≡ Some c = may.0.here ∙ ap Some same.1 in
          took_here sizes.shards c s past event k refl others
          (last_number c 0 k k (seats_in past) (omega arith) here
          (λ later after at. may.0.last later after (at ∙ ap Some (sym same.1))))
      | inr other ↦ took_elsewhere sizes.shards c s seat past event k refl others may.0.here other.1
    ]

-- and after all that happens
pub work_grows : (sizes : Sizes) (c s : ℕ) (seen history : List Event) → IsHistory sizes history
    → Lengthens seen history → Lengthens (work_on sizes.shards c s seen) (work_on sizes.shards c s history)
work_grows sizes c s seen history lawful more =
    let P : List Event → Type 0 = λ past. Lengthens (work_on sizes.shards c s seen) (work_on sizes.shards c s past) in
    subst P (sym more.1)
    (holds_of_all sizes P
    (λ past event was may. further (work_on sizes.shards c s seen) (work_on sizes.shards c s past)
    (work_on sizes.shards c s (past ++ event ∷ [])) was (work_push sizes c s past event may))
    seen more.0 (stays (work_on sizes.shards c s seen))
    (follow_back sizes [] seen more.0 (subst (λ h. IsHistory sizes h) more.1 lawful)))

-- The connection of an entry was opened.
abbrev IsAsked : ℕ → Entry → Type 0
IsAsked opened entry = entry.asker < opened

is_on-more : (c : ℕ) (seats more : List ℕ) (k : ℕ) → k < length seats → is_on c (seats ++ more) k ≡ is_on c seats k
is_on-more c seats more k below =
    let at = get_below seats k below in
    ap (λ o. option_map_or (λ one. one == c) o false) (get_front seats more k at.0 at.1 ∙ sym at.1)

-- with more connections opened, the entries of a seat are the same
pub of_seat-more : (c : ℕ) (seats more : List ℕ) (log : List Entry) → AllByRecursion (IsAsked (length seats)) log
    → filter (λ entry. is_on c (seats ++ more) entry.asker) log ≡ filter (λ entry. is_on c seats entry.asker) log
of_seat-more c seats more log owned =
    filter_same (λ (entry : Entry). is_on c (seats ++ more) entry.asker) (λ (entry : Entry). is_on c seats entry.asker)
    (IsAsked (length seats)) (λ entry below. is_on-more c seats more entry.asker below) log owned

-- The shard and the connection of an entry are there.
abbrev pub IsOwned : Sizes → ℕ → Entry → Type 0
IsOwned sizes opened entry = (entry.shard < sizes.shards) × (entry.asker < opened)

-- the connections of what a shard ran
pub on_shard-asked : (sizes : Sizes) (opened s : ℕ) (log : List Entry) → AllByRecursion (IsOwned sizes opened) log
    → AllByRecursion (IsAsked opened) (on_shard s log)
on_shard-asked sizes opened s log owned =
    all_filter (λ (entry : Entry). entry.shard == s) (IsAsked opened) log
    (all_weaken (IsOwned sizes opened) (IsAsked opened) (λ entry own. own.1) log owned)

-- an event at which nothing is run
channel_idle : (sizes : Sizes) (past : List Event) (event : Event) (c s : ℕ)
    → AllByRecursion (IsOwned sizes (length (seats_in past))) (ran_in past) → entries_of event ≡ []
    → ran_on c s (past ++ event ∷ []) ≡ ran_on c s past
channel_idle sizes past event c s owned none =
    let seats = seats_in past in
    let log : ran_in (past ++ event ∷ []) ≡ ran_in past = picked_push entries_of past event
    ∙ (ap (λ es. ran_in past ++ es) none ∙ append-nil (ran_in past)) in
    ap (λ es. filter (λ (entry : Entry). is_on c (seats_in (past ++ event ∷ [])) entry.asker) (on_shard s es)) log
    ∙ (ap (λ ss. filter (λ (entry : Entry). is_on c ss entry.asker) (on_shard s (ran_in past)))
    (picked_push seats_of past event)
    ∙ of_seat-more c seats (seats_of event) (on_shard s (ran_in past))
    (on_shard-asked sizes (length seats) s (ran_in past) owned))

-- What is due on the channel begins with what was run there.
abbrev RunsChannel : Sizes → List Event → ℕ → ℕ → Type 0
RunsChannel sizes past c s = Begins (map asked (ran_on c s past)) (work_on sizes.shards c s past)

-- where no more was run, it still does
channel_kept : (sizes : Sizes) (past : List Event) (event : Event) (c s : ℕ) → MayFollow sizes past event
    → ran_on c s (past ++ event ∷ []) ≡ ran_on c s past → RunsChannel sizes past c s
    → RunsChannel sizes (past ++ event ∷ []) c s
channel_kept sizes past event c s may same was =
    let grows = work_push sizes c s past event may in
    subst (λ es. Begins (map asked es) (work_on sizes.shards c s (past ++ event ∷ []))) (sym same)
    (subst (λ ws. Begins (map asked (ran_on c s past)) ws) (sym grows.1)
    (begins_longer (map asked (ran_on c s past)) (work_on sizes.shards c s past) grows.0 was))

-- what was run on a channel, with one entry more
channel_push : (sizes : Sizes) (past : List Event) (entry : Entry) (c s : ℕ)
    → IsNextOnChannel sizes past entry.shard entry.asker entry.piece → (log : List Entry) → log ≡ ran_in past
    ++ entry ∷ []
    → RunsChannel sizes past c s
    → Begins (map asked (filter (λ e. is_on c (seats_in past) e.asker) (on_shard s log)))
    (work_on sizes.shards c s past)
channel_push sizes past entry c s next log log_is was =
    let seats = seats_in past in
    let mine : Entry → Bool = λ e. is_on c seats e.asker in
    let work = work_on sizes.shards c s past in
    subst (λ es. Begins (map asked (filter mine (on_shard s es))) work) (sym log_is)
    (elim (eqb_tells entry.shard s) [
      | inr other ↦ subst (λ es. Begins (map asked (filter mine es)) work)
          (sym (on_shard-no s (ran_in past) entry other.1)) was
      | inl there ↦ subst (λ es. Begins (map asked (filter mine es)) work)
          (sym (on_shard-yes s (ran_in past) entry there.1))
          (elim (mine entry) as (λ b. mine entry ≡ b
          → Begins (map asked (filter mine (on_shard s (ran_in past) ++ entry ∷ []))) work) [
            | false ↦ λ is. subst (λ es. Begins (map asked es) work)
                (sym (filter_no mine (on_shard s (ran_in past)) entry is)) was
            | true ↦ λ is.
                let seat_is : next.seat ≡ c =
                eqb-true next.seat c (sym (ap (λ o. option_map_or (λ one. one == c) o false) next.on_seat) ∙ is) in
                let at : slice_get work (length (ran_on c s past)) ≡ Some (entry.asker, entry.piece) =
                subst (λ t. slice_get (work_on sizes.shards c t past) (length (ran_on c t past))
                ≡ Some (entry.asker, entry.piece)) there.1
                (subst (λ d. slice_get (work_on sizes.shards d entry.shard past) (length (ran_on d entry.shard past))
                ≡ Some (entry.asker, entry.piece)) seat_is next.next) in
                let at' : slice_get work (length (map asked (ran_on c s past))) ≡ Some (entry.asker, entry.piece) =
                ap (λ n. slice_get work n) (length-map (ran_on c s past) asked) ∙ at in
                subst (λ es. Begins (map asked es) work) (sym (filter_yes mine (on_shard s (ran_in past)) entry is))
                (subst (λ ps. Begins ps work) (sym (map-append asked (ran_on c s past) (entry ∷ [])))
                (begins_next (map asked (ran_on c s past)) work (asked entry) was at'))
          ] refl)
    ])

-- Each event that may follow leaves it so.
pub channels_push : (sizes : Sizes) (past : List Event) (event : Event) (c s : ℕ)
    → AllByRecursion (IsOwned sizes (length (seats_in past))) (ran_in past) → MayFollow sizes past event
    → RunsChannel sizes past c s → RunsChannel sizes (past ++ event ∷ []) c s
channels_push sizes past (Opened seat) c s owned may was =
    channel_kept sizes past (Opened seat) c s may (channel_idle sizes past (Opened seat) c s owned refl) was
channels_push sizes past (Took seat k command moment server given_up) c s owned may was =
    let event = Took seat k command moment server given_up in
    channel_kept sizes past event c s may (channel_idle sizes past event c s owned refl) was
channels_push sizes past (Ran shard asker piece answer) c s owned may was =
    let event = Ran shard asker piece answer in
    let entry : Entry = record { shard = shard; asker = asker; piece = piece; answer = answer } in
    let history = past ++ event ∷ [] in
    let grows = work_push sizes c s past event may in
    let seats : seats_in history ≡ seats_in past = picked_push seats_of past event ∙ append-nil (seats_in past) in
    let run = channel_push sizes past entry c s may.1 (ran_in history) (picked_push entries_of past event) was in
    let mine : List ℕ → List Entry = λ ss. filter (λ (e : Entry). is_on c ss e.asker) (on_shard s (ran_in history)) in
    subst (λ ss. Begins (map asked (mine ss)) (work_on sizes.shards c s history)) (sym seats)
    (subst (λ ws. Begins (map asked (mine (seats_in past))) ws) (sym grows.1)
    (begins_longer (map asked (mine (seats_in past))) (work_on sizes.shards c s past) grows.0 run))

-- pieces of one connection
seated_pieces : (seats : List ℕ) (c k : ℕ) → slice_get seats k ≡ Some c → (pieces : List Piece)
    → AllByRecursion (λ (one : ℕ × Piece). slice_get seats one.0 ≡ Some c) (map (λ piece. (k, piece)) pieces)
seated_pieces seats c k on [] = tt
seated_pieces seats c k on (piece ∷ pieces) = (on, seated_pieces seats c k on pieces)

-- what is due for connections on a seat
seated_work : (shards c s : ℕ) (history : List Event) (numbers : List ℕ)
    → AllByRecursion (HasSeat c 0 (seats_in history)) numbers
    → AllByRecursion (λ (one : ℕ × Piece). slice_get (seats_in history) one.0 ≡ Some c)
    (flat_map (work_of shards s history) numbers)
seated_work shards c s history [] all = tt
seated_work shards c s history (k ∷ numbers) all =
    let at = all.0 in
    let zeroed = at.1 in
    let on : slice_get (seats_in history) k ≡ Some c =
    subst (λ i. slice_get (seats_in history) i ≡ Some c) (omega (arith, zeroed)) at.2 in
    all_append (λ (one : ℕ × Piece). slice_get (seats_in history) one.0 ≡ Some c) (work_of shards s history k)
    (flat_map (work_of shards s history) numbers)
    (seated_pieces (seats_in history) c k on (due shards s (taken_in k history)))
    (seated_work shards c s history numbers all.1)

-- A piece that is due on a channel is of a connection on its seat.
pub work_seat : (shards c s n k : ℕ) (piece : Piece) (history : List Event)
    → slice_get {X = ℕ × Piece} (work_on shards c s history) n ≡ Some (k, piece) → slice_get (seats_in history) k
    ≡ Some c
work_seat shards c s n k piece history here =
    all_at (λ (one : ℕ × Piece). slice_get (seats_in history) one.0 ≡ Some c) (work_on shards c s history) n (k, piece)
    (seated_work shards c s history (numbers_on c 0 (seats_in history)) (numbers_seats c 0 (seats_in history))) here
