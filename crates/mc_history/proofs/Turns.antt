-- The next piece of a channel is the next of its connection.
use Rattle.std.proofs.Common.{◌≡◌, ◌≢◌, ℕ, zero, suc, ◌+◌, ◌<◌, ◌==◌, Bool, true, false, cond, List, [], ◌∷◌, ◌++◌}
use Rattle.std.proofs.Common.{length, map, Some, refl, sym, ap, ◌∙◌, arith, append-nil, append_assoc, eq-eqb, eqb-true}
use Rattle.std.proofs.Common.{ne_eqb}
use Rattle.std.specs.List.{filter, flat_map, slice_get}
use Rattle.std.specs.Option.{option_map_or}
use Rattle.std.proofs.lemmas.List.{length-map}
use Rattle.std.proofs.lemmas.List.Elements.{filter-append}
use Rattle.std.proofs.lemmas.Option.{same_Some}
use Rattle.mc_sizes.specs.declared.sizes.Sizes.{Sizes}
use Rattle.mc_split.specs.declared.plan.Piece.{Piece}
use Rattle.mc_conn.specs.Due.{due}
use Rattle.mc_model.specs.Log.{Entry, of_asker, on_shard}
use Rattle.mc_history.specs.declared.event.Event.{Event}
use Rattle.mc_history.specs.Worlds.{asked, is_on, numbers_on, ran_in, ran_on, seats_in, taken_in, work_of, work_on}
use Rattle.mc_history.specs.Lawful.{IsHistory}
use Rattle.mc_ring.proofs.Lists.{get_last}
use Rattle.mc_conn.proofs.Gets.{get_front}
use Rattle.mc_history.proofs.Lists.{filter_swap, filter_within}
use Rattle.mc_history.proofs.Holds.{holds}

-- the work of a connection among the work of others
abbrev is_of : ℕ → ℕ × Piece → Bool
is_of k one = one.0 == k

own_work : (k : ℕ) (pieces : List Piece) → filter (is_of k) (map (λ piece. (k, piece)) pieces)
    ≡ map (λ piece. (k, piece)) pieces
own_work k [] = refl
own_work k (piece ∷ pieces) =
    let rest = own_work k pieces in
    let own = map (λ (p : Piece). (k, p)) pieces in
    ap (λ b. cond b ((k, piece) ∷ filter (is_of k) own) (filter (is_of k) own)) (eq-eqb k k refl)
    ∙ ap (λ l. (k, piece) ∷ l) rest

other_work : (k j : ℕ) → j ≢ k → (pieces : List Piece) → filter (is_of k) (map (λ piece. (j, piece)) pieces) ≡ []
other_work k j other [] = refl
other_work k j other (piece ∷ pieces) =
    let rest = other_work k j other pieces in
    let own = map (λ (p : Piece). (j, p)) pieces in
    ap (λ b. cond b ((j, piece) ∷ filter (is_of k) own) (filter (is_of k) own)) (ne_eqb j k other) ∙ rest

-- among the connections of a seat, of which the first has this number: none behind it is this one
none_behind : (shards c s k n : ℕ) (history : List Event) (seats : List ℕ) → k < n
    → filter (is_of k) (flat_map (work_of shards s history) (numbers_on c n seats)) ≡ []
none_behind shards c s k n history [] before = refl
none_behind shards c s k n history (seat ∷ seats) before =
    let rest = none_behind shards c s k (n + 1) history seats (omega (arith, before)) in
    let later = numbers_on c (n + 1) seats in
    let f = work_of shards s history in
    elim (seat == c) as (λ b. filter (is_of k) (flat_map f (cond b (n ∷ later) later)) ≡ []) [
      | true ↦ filter-append (is_of k) (f n) (flat_map f later)
          ∙ (ap (λ l. l ++ filter (is_of k) (flat_map f later))
          (other_work k n (λ same. absurd (omega (arith, same, before))) (due shards s (taken_in n history))) ∙ rest)
      | false ↦ rest
    ]

-- its work is there once, where the seat is its own
work_once : (shards c s k n i : ℕ) (history : List Event) (seats : List ℕ) → k ≡ n + i → slice_get seats i ≡ Some c
    → filter (is_of k) (flat_map (work_of shards s history) (numbers_on c n seats)) ≡ work_of shards s history k
work_once shards c s k n i history [] is here = absurd (cc here)
work_once shards c s k n zero history (seat ∷ seats) is here =
    let later = numbers_on c (n + 1) seats in
    let f = work_of shards s history in
    let at : n ≡ k = omega (arith, is) in
    let none = none_behind shards c s k (n + 1) history seats (omega (arith, is)) in
    ap (λ b. filter (is_of k) (flat_map f (cond b (n ∷ later) later))) (eq-eqb seat c (same_Some seat c here))
    ∙ (filter-append (is_of k) (f n) (flat_map f later)
    ∙ (ap (λ l. filter (is_of k) (f n) ++ l) none
    ∙ (append-nil (filter (is_of k) (f n))
    ∙ (ap (λ j. filter (is_of k) (f j)) at ∙ own_work k (due shards s (taken_in k history))))))
work_once shards c s k n (suc i) history (seat ∷ seats) is here =
    let rest = work_once shards c s k (n + 1) i history seats (omega (arith, is)) here in
    let later = numbers_on c (n + 1) seats in
    let f = work_of shards s history in
    elim (seat == c) as (λ b. filter (is_of k) (flat_map f (cond b (n ∷ later) later)) ≡ f k) [
      | true ↦ filter-append (is_of k) (f n) (flat_map f later)
          ∙ (ap (λ l. l ++ filter (is_of k) (flat_map f later))
          (other_work k n (λ same. absurd (omega (arith, same, is))) (due shards s (taken_in n history))) ∙ rest)
      | false ↦ rest
    ]

-- of entries by a connection as many as of what was asked by it
asked_of : (k : ℕ) (log : List Entry) → length (filter (is_of k) (map asked log)) ≡ length (of_asker k log)
asked_of k [] = refl
asked_of k (entry ∷ log) =
    let rest = asked_of k log in
    elim (entry.asker == k) as
    (λ b. length (cond b (asked entry ∷ filter (is_of k) (map asked log)) (filter (is_of k) (map asked log)))
    ≡ length (cond b (entry ∷ of_asker k log) (of_asker k log))) [
      | true ↦ ap suc rest
      | false ↦ rest
    ]

-- where a list goes on behind a beginning with this element, so does what is behind it
goes_on : {X : Type 0} (xs rest : List X) (x : X) → slice_get (xs ++ rest) (length xs) ≡ Some x → (later : List X)
    × (rest ≡ x ∷ later)
goes_on [] [] x here = absurd (cc here)
goes_on [] (y ∷ rest) x here = (rest, ap (λ z. z ∷ rest) (same_Some y x here))
goes_on (y ∷ xs) rest x here = goes_on xs rest x here

get_own : (k : ℕ) (pieces : List Piece) (n : ℕ) (piece : Piece) → slice_get {X = ℕ × Piece} (map (λ p. (k, p)) pieces) n
    ≡ Some (k, piece) → slice_get pieces n ≡ Some piece
get_own k [] n piece here = absurd (cc here)
get_own k (p ∷ pieces) zero piece here = ap (λ one. Some (one.1)) (same_Some (k, p) (k, piece) here)
get_own k (p ∷ pieces) (suc n) piece here = get_own k pieces n piece here

-- The next piece of a channel is the next that is due for its connection.
pub channel_due : (sizes : Sizes) (c s k : ℕ) (piece : Piece) (history : List Event) → IsHistory sizes history
    → slice_get (seats_in history) k ≡ Some c
    → slice_get (work_on sizes.shards c s history) (length (ran_on c s history)) ≡ Some (k, piece)
    → slice_get (due sizes.shards s (taken_in k history)) (length (on_shard s (of_asker k (ran_in history))))
    ≡ Some piece
channel_due sizes c s k piece history lawful on next =
    let ran = ran_on c s history in
    let work = work_on sizes.shards c s history in
    let one : ℕ × Piece = (k, piece) in
    let channel = (holds sizes history lawful).channels c s in
    let at : slice_get (map asked ran ++ channel.0) (length (map asked ran)) ≡ Some one =
    ap (λ n. slice_get (map asked ran ++ channel.0) n) (length-map ran asked)
    ∙ (ap (λ l. slice_get l (length ran)) channel.1 ∙ next) in
    let behind = goes_on (map asked ran) channel.0 one at in
    let split : work ≡ map asked ran ++ one ∷ behind.0 = sym channel.1 ∙ ap (λ l. map asked ran ++ l) behind.1 in
    let mine : filter (is_of k) (one ∷ behind.0) ≡ one ∷ filter (is_of k) behind.0 =
    ap (λ b. cond b (one ∷ filter (is_of k) behind.0) (filter (is_of k) behind.0)) (eq-eqb k k refl) in
    let own : work_of sizes.shards s history k ≡ filter (is_of k) (map asked ran) ++ one ∷ filter (is_of k) behind.0 =
    sym (work_once sizes.shards c s k 0 k history (seats_in history) (omega arith) on)
    ∙ (ap (filter (is_of k)) split
    ∙ (filter-append (is_of k) (map asked ran) (one ∷ behind.0) ∙ ap (λ l. filter (is_of k) (map asked ran) ++ l) mine))
    in
    let asked_here = filter (is_of k) (map asked ran) in
    let found : slice_get (work_of sizes.shards s history k) (length (filter (is_of k) (map asked ran))) ≡ Some one =
    ap (λ l. slice_get l (length (filter (is_of k) (map asked ran)))) own
    ∙ (ap (λ l. slice_get l (length asked_here)) (sym (append_assoc asked_here (one ∷ []) (filter (is_of k) behind.0)))
    ∙ get_front (asked_here ++ one ∷ []) (filter (is_of k) behind.0) (length asked_here) one (get_last asked_here one))
    in
    let here : Entry → Bool = λ e. is_on c (seats_in history) e.asker in
    let by : Entry → Bool = λ e. e.asker == k in
    let on_seat : (e : Entry) → by e ≡ true → here e ≡ true =
    λ e same. ap (λ j. is_on c (seats_in history) j) (eqb-true e.asker k same)
    ∙ (ap (λ o. option_map_or (λ seat. seat == c) o false) on ∙ eq-eqb c c refl) in
    let count : length (filter (is_of k) (map asked ran)) ≡ length (on_shard s (of_asker k (ran_in history))) =
    asked_of k ran ∙ ap length
    (filter_within by here on_seat (on_shard s (ran_in history))
    ∙ filter_swap by (λ (e : Entry). e.shard == s) (ran_in history)) in
    get_own k (due sizes.shards s (taken_in k history)) (length (on_shard s (of_asker k (ran_in history)))) piece
    (ap (λ n. slice_get (work_of sizes.shards s history k) n) (sym count) ∙ found)
