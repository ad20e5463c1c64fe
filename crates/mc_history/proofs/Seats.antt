-- What is due on a seat's channels, and what was run there, as the seat's actor goes on.
use Rattle.std.proofs.Common.{◌≡◌, ◌≢◌, ℕ, ◌+◌, ◌<◌, ◌==◌, Bool, true, false, cond, List, [], ◌∷◌, ◌++◌, length, map}
use Rattle.std.proofs.Common.{Some, refl, sym, ap, subst, ◌∙◌, arith, append-nil, append_assoc, eq-eqb, ne_eqb}
use Rattle.std.specs.List.{filter, flat_map, slice_get}
use Rattle.std.proofs.lemmas.List.{map-append}
use Rattle.std.proofs.lemmas.List.Concat.{flat_map-append}
use Rattle.std.proofs.lemmas.List.Elements.{filter-append}
use Rattle.mc_sizes.specs.declared.sizes.Sizes.{Sizes}
use Rattle.mc_split.specs.declared.plan.Piece.{Piece}
use Rattle.mc_conn.specs.History.{Taken}
use Rattle.mc_conn.specs.Due.{due, channel, pieces_from}
use Rattle.mc_conn.proofs.Fitting.{due-append}
use Rattle.mc_model.specs.Grows.{Lengthens}
use Rattle.mc_model.specs.Log.{Entry, on_shard}
use Rattle.mc_history.specs.declared.event.Event.{Event}
use Rattle.mc_history.specs.declared.event.Event.TheVariants.{Opened}
use Rattle.mc_history.specs.declared.knowledge.Role.TheVariants.{Seat}
use Rattle.mc_history.specs.Worlds.{IsLastOn, entries_of, is_on, numbers_on, ran_in, ran_on, seats_in, seats_of}
use Rattle.mc_history.specs.Worlds.{taken_in, taken_of, took, work_of, work_on}
use Rattle.mc_history.specs.Lawful.{IsHistory}
use Rattle.mc_history.specs.Roles.{own_part}
use Rattle.mc_history.proofs.Holds.{holds}
use Rattle.mc_history.proofs.Channels.{HasSeat, last_number, numbers_seats, of_seat-more, on_shard-asked}
use Rattle.mc_history.proofs.Lists.{flat_same, lengthens_picked, nothing_more, picked_push}
use Rattle.mc_history.proofs.Placed.{taken_is, unopened_took}
use Rattle.mc_history.proofs.Seeing.{lawful_before, seat_later, took_all}
use Rattle.mc_history.proofs.Worlds.{seats_part}

numbers_none : (c n : ℕ) (seats : List ℕ) → filter (λ one. one == c) seats ≡ [] → numbers_on c n seats ≡ []
numbers_none c n [] none = refl
numbers_none c n (seat ∷ seats) none =
    let rest = numbers_on c (n + 1) seats in
    elim (seat == c) as (λ b. cond b (seat ∷ filter (λ one. one == c) seats) (filter (λ one. one == c) seats) ≡ []
    → cond b (n ∷ rest) rest ≡ []) [
      | true ↦ λ e. absurd (cc e)
      | false ↦ λ e. numbers_none c (n + 1) seats e
    ] none

-- with connections opened on other seats, the numbers are the same
numbers_front : (c n : ℕ) (seats more : List ℕ) → filter (λ one. one == c) more ≡ [] → numbers_on c n (seats ++ more)
    ≡ numbers_on c n seats
numbers_front c n [] more none = numbers_none c n more none
numbers_front c n (seat ∷ seats) more none =
    let rest = numbers_front c (n + 1) seats more none in
    let old = numbers_on c (n + 1) seats in
    let new = numbers_on c (n + 1) (seats ++ more) in
    elim (seat == c) as (λ b. cond b (n ∷ new) new ≡ cond b (n ∷ old) old) [
      | true ↦ ap (λ ks. n ∷ ks) rest
      | false ↦ rest
    ]

-- with one opened on this seat, it is the last
numbers_push : (c n : ℕ) (seats : List ℕ) → numbers_on c n (seats ++ c ∷ []) ≡ numbers_on c n seats
    ++ (n + length seats) ∷ []
numbers_push c n [] = ap (λ b. cond b (n ∷ []) []) (eq-eqb c c refl) ∙ ap (λ j. j ∷ []) (omega arith)
numbers_push c n (seat ∷ seats) =
    let rest : numbers_on c (n + 1) (seats ++ c ∷ []) ≡ numbers_on c (n + 1) seats ++ (n + length (seat ∷ seats)) ∷ [] =
    numbers_push c (n + 1) seats ∙ ap (λ j. numbers_on c (n + 1) seats ++ j ∷ []) (omega arith) in
    let old = numbers_on c (n + 1) seats in
    let new = numbers_on c (n + 1) (seats ++ c ∷ []) in
    elim (seat == c) as (λ b. cond b (n ∷ new) new ≡ cond b (n ∷ old) old ++ (n + length (seat ∷ seats)) ∷ []) [
      | true ↦ ap (λ ks. n ∷ ks) rest
      | false ↦ rest
    ]

-- The numbers of a seat's connections stay while its actor opens none.
pub numbers_same : (c : ℕ) (seen history : List Event) → Lengthens seen history → own_part (Seat c) history
    ≡ own_part (Seat c) seen → numbers_on c 0 (seats_in history) ≡ numbers_on c 0 (seats_in seen)
numbers_same c seen history more same =
    let seats = seats_in seen in
    let longer = lengthens_picked seats_of seen history more in
    let here : ℕ → Bool = λ one. one == c in
    let none : filter here longer.0 ≡ [] =
    nothing_more (filter here seats) (filter here longer.0)
    (sym (filter-append here seats longer.0)
    ∙ (ap (filter here) (sym longer.1) ∙ (sym (seats_part c history) ∙ (ap seats_in same ∙ seats_part c seen)))) in
    ap (numbers_on c 0) longer.1 ∙ numbers_front c 0 seats longer.0 none

-- What a connection on the seat took stays while the seat's actor adds nothing.
pub taken_same : (sizes : Sizes) (c k : ℕ) (seen history : List Event) → IsHistory sizes history
    → Lengthens seen history → own_part (Seat c) history ≡ own_part (Seat c) seen → slice_get (seats_in seen) k ≡ Some c
    → taken_in k history ≡ taken_in k seen
taken_same sizes c k seen history lawful more same on =
    sym (taken_is sizes c k history lawful (seat_later k c seen history more on))
    ∙ (ap (taken_in k) same ∙ taken_is sizes c k seen (lawful_before sizes seen history more lawful) on)

seated : (c k : ℕ) (seats : List ℕ) → HasSeat c 0 seats k → slice_get seats k ≡ Some c
seated c k seats at =
    let zeroed = at.1 in
    subst (λ i. slice_get seats i ≡ Some c) (omega (arith, zeroed)) at.2

-- What is due on a channel stays while the seat's actor adds nothing.
pub work_stays : (sizes : Sizes) (c s : ℕ) (seen history : List Event) → IsHistory sizes history
    → Lengthens seen history → own_part (Seat c) history ≡ own_part (Seat c) seen → work_on sizes.shards c s history
    ≡ work_on sizes.shards c s seen
work_stays sizes c s seen history lawful more same =
    let numbers = numbers_on c 0 (seats_in seen) in
    ap (flat_map (work_of sizes.shards s history)) (numbers_same c seen history more same)
    ∙ flat_same (work_of sizes.shards s history) (work_of sizes.shards s seen) (HasSeat c 0 (seats_in seen))
    (λ k at. ap (λ ts. map (λ (piece : Piece). (k, piece)) (due sizes.shards s ts))
    (taken_same sizes c k seen history lawful more same (seated c k (seats_in seen) at)))
    numbers (numbers_seats c 0 (seats_in seen))

-- What is due on a channel is the same once a connection was opened on its seat.
pub work_opened : (sizes : Sizes) (c s : ℕ) (past : List Event) → IsHistory sizes past
    → work_on sizes.shards c s (past ++ Opened c ∷ []) ≡ work_on sizes.shards c s past
work_opened sizes c s past lawful =
    let now = past ++ Opened c ∷ [] in
    let f = work_of sizes.shards s past in
    let g = work_of sizes.shards s now in
    let numbers = numbers_on c 0 (seats_in past) in
    let k = 0 + length (seats_in past) in
    let kept : (j : ℕ) → taken_in j now ≡ taken_in j past = λ j. picked_push (taken_of j) past (Opened c)
    ∙ append-nil (taken_in j past) in
    let same : flat_map g numbers ≡ flat_map f numbers =
    flat_same g f (HasSeat c 0 (seats_in past))
    (λ j at. ap (λ ts. map (λ (piece : Piece). (j, piece)) (due sizes.shards s ts)) (kept j)) numbers
    (numbers_seats c 0 (seats_in past)) in
    let none : g k ≡ [] = ap (λ ts. map (λ (piece : Piece). (k, piece)) (due sizes.shards s ts))
    (kept k ∙ unopened_took sizes past lawful k (omega arith)) in
    ap (flat_map g) (ap (numbers_on c 0) (picked_push seats_of past (Opened c)) ∙ numbers_push c 0 (seats_in past))
    ∙ (flat_map-append g numbers (k ∷ [])
    ∙ (ap (λ ws. flat_map g numbers ++ (ws ++ [])) none ∙ (append-nil (flat_map g numbers) ∙ same)))

-- no connection is opened where commands are taken
pub seats_took : (c k : ℕ) (taken : List Taken) → seats_in (map (took c k) taken) ≡ []
seats_took c k [] = refl
seats_took c k (one ∷ taken) = seats_took c k taken

took_none : (c k j : ℕ) (taken : List Taken) → j ≢ k → taken_in j (map (took c k) taken) ≡ []
took_none c k j [] other = refl
took_none c k j (one ∷ taken) other =
    ap (λ b. cond b (one ∷ []) [] ++ taken_in j (map (took c k) taken)) (ne_eqb k j (λ same. other (sym same)))
    ∙ took_none c k j taken other

-- What is due on a channel once the seat's last connection took more commands: their pieces are behind the others.
pub work_took : (sizes : Sizes) (c s k : ℕ) (taken : List Taken) (past : List Event) → IsLastOn c k past
    → work_on sizes.shards c s (past ++ map (took c k) taken) ≡ work_on sizes.shards c s past
    ++ map (λ piece. (k, piece)) (channel s (pieces_from sizes.shards (0 + length (taken_in k past)) taken))
work_took sizes c s k taken past last =
    let events = map (took c k) taken in
    let now = past ++ events in
    let f = work_of sizes.shards s past in
    let g = work_of sizes.shards s now in
    let seats = seats_in past in
    let ends = last_number c 0 k k seats (omega arith) last.here last.last in
    let front = ends.front in
    let with : Piece → ℕ × Piece = λ piece. (k, piece) in
    let numbers : numbers_on c 0 (seats_in now) ≡ front ++ k ∷ [] =
    ap (numbers_on c 0) (flat_map-append seats_of past events
    ∙ (ap (λ ss. seats ++ ss) (seats_took c k taken) ∙ append-nil seats)) ∙ ends.is in
    let others : (j : ℕ) → j < k → taken_in j now ≡ taken_in j past = λ j below.
    flat_map-append (taken_of j) past events
    ∙ (ap (λ ts. taken_in j past ++ ts) (took_none c k j taken (λ same. absurd (omega (arith, below, same))))
    ∙ append-nil (taken_in j past)) in
    let same : flat_map g front ≡ flat_map f front =
    flat_same g f (λ j. j < k)
    (λ j below. ap (λ ts. map (λ (piece : Piece). (j, piece)) (due sizes.shards s ts)) (others j below)) front
    ends.below in
    let more = channel s (pieces_from sizes.shards (0 + length (taken_in k past)) taken) in
    let mine : g k ≡ f k ++ map with more =
    ap (λ ts. map with (due sizes.shards s ts))
    (flat_map-append (taken_of k) past events ∙ ap (λ ts. taken_in k past ++ ts) (took_all c k taken))
    ∙ (ap (map with) (due-append sizes.shards s (taken_in k past) taken)
    ∙ map-append with (due sizes.shards s (taken_in k past)) more) in
    let old : work_on sizes.shards c s past ≡ flat_map f front ++ f k =
    ap (flat_map f) ends.is ∙ (flat_map-append f front (k ∷ []) ∙ ap (λ ws. flat_map f front ++ ws) (append-nil (f k)))
    in
    ap (flat_map g) numbers ∙ (flat_map-append g front (k ∷ [])
    ∙ (ap (λ ws. flat_map g front ++ ws) (append-nil (g k) ∙ mine)
    ∙ (ap (λ ws. ws ++ (f k ++ map with more)) same
    ∙ (sym (append_assoc (flat_map f front) (f k) (map with more)) ∙ ap (λ ws. ws ++ map with more) (sym old)))))

-- What was run on a channel only grows at its end.
pub ran_grows : (sizes : Sizes) (c s : ℕ) (seen history : List Event) → IsHistory sizes history → Lengthens seen history
    → Lengthens (ran_on c s seen) (ran_on c s history)
ran_grows sizes c s seen history lawful more =
    let seats = seats_in seen in
    let longer = lengthens_picked seats_of seen history more in
    let ran = lengthens_picked entries_of seen history more in
    let here : Entry → Bool = λ entry. entry.shard == s in
    let on : Entry → Bool = λ entry. is_on c (seats ++ longer.0) entry.asker in
    let owned = (holds sizes seen (lawful_before sizes seen history more lawful)).owned in (
      filter on (on_shard s ran.0),
      ap (λ ss. filter (λ (entry : Entry). is_on c ss entry.asker) (on_shard s (ran_in history))) longer.1
          ∙ (ap (λ es. filter on (on_shard s es)) ran.1
          ∙ (ap (filter on) (filter-append here (ran_in seen) ran.0)
          ∙ (filter-append on (on_shard s (ran_in seen)) (on_shard s ran.0)
          ∙ ap (λ es. es ++ filter on (on_shard s ran.0))
          (of_seat-more c seats longer.0 (on_shard s (ran_in seen))
          (on_shard-asked sizes (length seats) s (ran_in seen) owned))))),
    )
