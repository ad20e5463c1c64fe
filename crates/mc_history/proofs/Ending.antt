-- On a seat's channel the last connection's part is behind that of the earlier ones.
use Rattle.std.proofs.Common.{◌≡◌, ◌≢◌, ℕ, ◌<◌, ◌==◌, Bool, true, false, List, [], ◌∷◌, ◌++◌, length, map, drop, refl}
use Rattle.std.proofs.Common.{sym, ap, ◌∙◌, arith, append-nil, eq-eqb, eqb-true, ne_eqb, cond}
use Rattle.std.specs.List.{AllByRecursion, flat_map, slice_get}
use Rattle.std.specs.Option.{option_map_or}
use Rattle.std.proofs.lemmas.List.Concat.{flat_map-append}
use Rattle.std.proofs.lemmas.Option.{same_Some}
use Rattle.mc_sizes.specs.declared.sizes.Sizes.{Sizes}
use Rattle.mc_ring.proofs.Lists.{all_append}
use Rattle.mc_split.specs.declared.plan.Piece.{Piece}
use Rattle.mc_conn.specs.Due.{due}
use Rattle.mc_model.specs.Log.{Entry, of_asker, on_shard}
use Rattle.mc_history.specs.declared.event.Event.{Event}
use Rattle.mc_history.specs.Worlds.{IsLastOn, asked, is_on, ran_in, ran_on, seats_in, taken_in, work_of, work_on}
use Rattle.mc_history.specs.Lawful.{IsHistory}
use Rattle.mc_history.proofs.Holds.{holds}
use Rattle.mc_history.proofs.Channels.{last_number}
use Rattle.mc_history.proofs.Lists.{filter_swap, filter_within}

-- where all that was asked is by one connection, so is all that was run of it
all_own : (k : ℕ) (ran : List Entry) (work rest : List (ℕ × Piece))
    → AllByRecursion (λ (one : ℕ × Piece). one.0 ≡ k) work → map asked ran ++ rest ≡ work → of_asker k ran ≡ ran
all_own k [] work rest own is = refl
all_own k (entry ∷ ran) [] rest own is = absurd (cc is)
all_own k (entry ∷ ran) (one ∷ work) rest own is =
    let first : asked entry ≡ one = same_Some (asked entry) one (ap (λ l. slice_get l 0) is) in
    let mine : (entry.asker == k) ≡ true = eq-eqb entry.asker k (ap (λ (o : ℕ × Piece). o.0) first ∙ own.0) in
    ap (λ b. cond b (entry ∷ of_asker k ran) (of_asker k ran)) mine
    ∙ ap (λ es. entry ∷ es) (all_own k ran work rest own.1 (cc is))

-- where what was asked by others comes first, so does what was run of it
own_behind : (k : ℕ) (ran : List Entry) (front back rest : List (ℕ × Piece))
    → AllByRecursion (λ (one : ℕ × Piece). one.0 ≢ k) front → AllByRecursion (λ (one : ℕ × Piece). one.0 ≡ k) back
    → map asked ran ++ rest ≡ front ++ back
    → of_asker k ran ≡ drop (length front) ran
own_behind k ran [] back rest others own is = all_own k ran back rest own is
own_behind k [] (one ∷ front) back rest others own is = refl
own_behind k (entry ∷ ran) (one ∷ front) back rest others own is =
    let first : asked entry ≡ one = same_Some (asked entry) one (ap (λ l. slice_get l 0) is) in
    let other = ne_eqb entry.asker k (λ same. others.0 (sym (ap (λ (o : ℕ × Piece). o.0) first) ∙ same)) in
    ap (λ b. cond b (entry ∷ of_asker k ran) (of_asker k ran)) other
    ∙ own_behind k ran front back rest others.1 own (cc is)

work_own : (k : ℕ) (pieces : List Piece)
    → AllByRecursion (λ (one : ℕ × Piece). one.0 ≡ k) (map (λ piece. (k, piece)) pieces)
work_own k [] = tt
work_own k (piece ∷ pieces) = (refl, work_own k pieces)

work_other : (k j : ℕ) (pieces : List Piece) → j ≢ k
    → AllByRecursion (λ (one : ℕ × Piece). one.0 ≢ k) (map (λ piece. (j, piece)) pieces)
work_other k j [] other = tt
work_other k j (piece ∷ pieces) other = (other, work_other k j pieces other)

earlier_work : (shards s k : ℕ) (history : List Event) (numbers : List ℕ) → AllByRecursion (λ j. j < k) numbers
    → AllByRecursion (λ (one : ℕ × Piece). one.0 ≢ k) (flat_map (work_of shards s history) numbers)
earlier_work shards s k history [] below = tt
earlier_work shards s k history (j ∷ numbers) below =
    let less = below.0 in
    all_append (λ (one : ℕ × Piece). one.0 ≢ k) (work_of shards s history j)
    (flat_map (work_of shards s history) numbers)
    (work_other k j (due shards s (taken_in j history)) (λ same. absurd (omega (arith, less, same))))
    (earlier_work shards s k history numbers below.1)

-- What is due on a channel, and what was run there, for the earlier connections of the seat and for its last one.
pub record ChannelOfLast (sizes : Sizes) (c s k : ℕ) (history : List Event) : Type 0 where
  pub earlier : List (ℕ × Piece)
  pub work_is : work_on sizes.shards c s history ≡ earlier ++ work_of sizes.shards s history k
  pub ran_is : on_shard s (of_asker k (ran_in history)) ≡ drop (length earlier) (ran_on c s history)

-- The last connection's part is behind.
pub channel_of_last : (sizes : Sizes) (c s k : ℕ) (history : List Event) → IsHistory sizes history
    → IsLastOn c k history → ChannelOfLast sizes c s k history
channel_of_last sizes c s k history lawful last =
    let ends = last_number c 0 k k (seats_in history) (omega arith) last.here last.last in
    let f = work_of sizes.shards s history in
    let ran = ran_on c s history in
    let channel = (holds sizes history lawful).channels c s in
    let work : work_on sizes.shards c s history ≡ flat_map f ends.front ++ f k =
    ap (flat_map f) ends.is ∙
    (flat_map-append f ends.front (k ∷ []) ∙ ap (λ ws. flat_map f ends.front ++ ws) (append-nil (f k))) in
    let here : Entry → Bool = λ e. is_on c (seats_in history) e.asker in
    let by : Entry → Bool = λ e. e.asker == k in
    let on_seat : (e : Entry) → by e ≡ true → here e ≡ true =
    λ e same. ap (λ j. is_on c (seats_in history) j) (eqb-true e.asker k same)
    ∙ (ap (λ o. option_map_or (λ seat. seat == c) o false) last.here ∙ eq-eqb c c refl) in
    record {
      earlier = flat_map f ends.front;
      work_is = work;
      ran_is =
          sym (filter_within by here on_seat (on_shard s (ran_in history))
          ∙ filter_swap by (λ (e : Entry). e.shard == s) (ran_in history))
          ∙ own_behind k ran (flat_map f ends.front) (f k) channel.0
          (earlier_work sizes.shards s k history ends.front ends.below)
          (work_own k (due sizes.shards s (taken_in k history))) (channel.1 ∙ work);
    }
