-- What may follow what a token has seen may follow all that happened.
use Rattle.std.proofs.Common.{◌≡◌, ℕ, ◌==◌, Bool, true, inl, inr, List, [], ◌∷◌, ◌++◌, length, map, Some, refl, sym, ap}
use Rattle.std.proofs.Common.{subst, ◌∙◌, append-nil, eq-eqb}
use Rattle.std.specs.List.{AllByRecursion, filter, slice_get}
use Rattle.mc_conn.specs.History.{MayBeTaken, Taken}
use Rattle.std.proofs.lemmas.List.Elements.{filter-append}
use Rattle.mc_sizes.specs.declared.sizes.Sizes.{Sizes}
use Rattle.mc_split.specs.declared.plan.Piece.{Piece}
use Rattle.mc_conn.specs.Due.{due}
use Rattle.mc_conn.proofs.Gets.{get_front}
use Rattle.mc_model.specs.Log.{Entry, Run, of_asker, on_shard}
use Rattle.mc_model.specs.Sized.{empty_shard}
use Rattle.mc_model.specs.Grows.{Lengthens}
use Rattle.mc_history.specs.declared.event.Event.{Event}
use Rattle.mc_history.specs.declared.event.Event.TheVariants.{Opened, Took, Ran}
use Rattle.mc_history.specs.declared.knowledge.Role.{Role}
use Rattle.mc_history.specs.declared.knowledge.Role.TheVariants.{Seat}
use Rattle.mc_history.specs.Worlds.{IsLastOn, is_on, ran_in, ran_on, seats_in, seats_of, taken_in, took, work_on}
use Rattle.mc_history.specs.Lawful.{IsHistory, IsNextOnChannel, MayAllFollow, MayFollow}
use Rattle.mc_history.specs.Rule.{MayJoin}
use Rattle.mc_history.specs.Roles.{is_own, own_part}
use Rattle.mc_history.proofs.Lists.{filter_swap, get_either, lengthens_picked, none_passes, nothing_more, picked_push}
use Rattle.mc_history.proofs.Roles.{part_within}
use Rattle.mc_history.proofs.Worlds.{acts_for_seat, same_entries, seats_part}
use Rattle.mc_history.proofs.Follows.{due_stays, follow_front}
use Rattle.mc_history.proofs.Channels.{of_seat-more, on_shard-asked, work_grows}
use Rattle.mc_history.proofs.Holds.{holds}

-- The last connection on a seat is so later, where no other was opened there.
pub last_stays : (c k : ℕ) (seen history : List Event) → Lengthens seen history → own_part (Seat c) history
    ≡ own_part (Seat c) seen → IsLastOn c k seen → IsLastOn c k history
last_stays c k seen history more same was =
    let seats = seats_in seen in
    let longer = lengthens_picked seats_of seen history more in
    let here : ℕ → Bool = λ one. one == c in
    let none : filter here longer.0 ≡ [] =
    nothing_more (filter here seats) (filter here longer.0)
    (sym (filter-append here seats longer.0)
    ∙ (ap (filter here) (sym longer.1) ∙ (sym (seats_part c history) ∙ (ap seats_in same ∙ seats_part c seen)))) in
    record {
      here = ap (λ ss. slice_get ss k) longer.1 ∙ get_front seats longer.0 k c was.here;
      last =
          λ later after at. elim (get_either seats longer.0 later c
          (sym (ap (λ ss. slice_get ss later) longer.1) ∙ at)) [
            | inl old ↦ was.last later after old
            | inr new ↦ none_passes here longer.0 new.0 c none new.1 (eq-eqb c c refl)
          ];
    }

-- What was run on a channel is the same later, where the shard ran no more.
pub ran_stays : (sizes : Sizes) (c s : ℕ) (seen history : List Event) → IsHistory sizes history → Lengthens seen history
    → on_shard s (ran_in history) ≡ on_shard s (ran_in seen) → ran_on c s history ≡ ran_on c s seen
ran_stays sizes c s seen history lawful more same =
    let seats = seats_in seen in
    let longer = lengthens_picked seats_of seen history more in
    let owned = (holds sizes seen
    (follow_front sizes [] seen more.0 (subst (λ h. IsHistory sizes h) more.1 lawful))).owned in
    ap (filter (λ (entry : Entry). is_on c (seats_in history) entry.asker)) same
    ∙ (ap (λ ss. filter (λ (entry : Entry). is_on c ss entry.asker) (on_shard s (ran_in seen))) longer.1
    ∙ of_seat-more c seats longer.0 (on_shard s (ran_in seen))
    (on_shard-asked sizes (length seats) s (ran_in seen) owned))

-- The next piece of a channel is so later, where the shard ran no more.
next_stays : (sizes : Sizes) (s k : ℕ) (piece : Piece) (seen history : List Event) → IsHistory sizes history
    → Lengthens seen history → on_shard s (ran_in history) ≡ on_shard s (ran_in seen)
    → IsNextOnChannel sizes seen s k piece → IsNextOnChannel sizes history s k piece
next_stays sizes s k piece seen history lawful more same next =
    let seats = seats_in seen in
    let longer = lengthens_picked seats_of seen history more in
    let grows = work_grows sizes next.seat s seen history lawful more in
    let ran = ran_stays sizes next.seat s seen history lawful more same in
    record {
      seat = next.seat;
      on_seat = ap (λ ss. slice_get ss k) longer.1 ∙ get_front seats longer.0 k next.seat next.on_seat;
      next = ap (λ n. slice_get (work_on sizes.shards next.seat s history) n) (ap length ran)
          ∙ (ap (λ ws. slice_get ws (length (ran_on next.seat s seen))) grows.1
          ∙ get_front (work_on sizes.shards next.seat s seen) grows.0 (length (ran_on next.seat s seen)) (k, piece)
          next.next);
    }

-- so it is the next, where the shard ran no more
due_later : (sizes : Sizes) (seen history : List Event) (s k : ℕ) (piece : Piece) → Lengthens seen history
    → on_shard s (ran_in history) ≡ on_shard s (ran_in seen)
    → slice_get (due sizes.shards s (taken_in k seen)) (length (on_shard s (of_asker k (ran_in seen)))) ≡ Some piece
    → slice_get (due sizes.shards s (taken_in k history)) (length (on_shard s (of_asker k (ran_in history))))
    ≡ Some piece
due_later sizes seen history s k piece more same next =
    let here : Entry → Bool = λ e. e.shard == s in
    let mine : Entry → Bool = λ e. e.asker == k in
    let count : length (on_shard s (of_asker k (ran_in history))) ≡ length (on_shard s (of_asker k (ran_in seen))) =
    ap length (filter_swap here mine (ran_in history)
    ∙ (ap (of_asker k) same ∙ sym (filter_swap here mine (ran_in seen)))) in
    ap (λ i. slice_get (due sizes.shards s (taken_in k history)) i) count
    ∙ due_stays sizes.shards s k (length (on_shard s (of_asker k (ran_in seen)))) seen history piece more next

-- Of an event that is the token's own: if it may follow what the token has seen, it may follow all that happened.
pub may_later : (sizes : Sizes) (role : Role) (seen history : List Event) (event : Event) → IsHistory sizes history
    → is_own role event ≡ true → Lengthens seen history → own_part role history ≡ own_part role seen
    → MayFollow sizes seen event → MayFollow sizes history event
may_later sizes role seen history (Opened seat) lawful own more same may = may
may_later sizes role seen history (Took seat connection command moment server given_up) lawful own more same may =
    let event = Took seat connection command moment server given_up in
    let part = part_within (Seat seat) role history seen (acts_for_seat role event seat (eq-eqb seat seat refl) own)
    same in
    (last_stays seat connection seen history more part may.0, may.1)
may_later sizes role seen history (Ran shard asker piece answer) lawful own more same may =
    let runs = may.2 in
    let entries = same_entries role history seen (Ran shard asker piece answer) shard (eq-eqb shard shard refl) own same
    in (
      may.0,
      next_stays sizes shard asker piece seen history lawful more entries may.1,
      record {
        shard_is = runs.shard_is;
        asker_is = runs.asker_is;
        next = due_later sizes seen history shard asker piece more entries runs.next;
        before = runs.before;
        after = runs.after;
        left = subst (λ (log : List Entry). Run (empty_shard sizes shard) log runs.before) (sym entries) runs.left;
        step = runs.step;
      },
    )

-- So it may join, whatever others did.
pub may_join : (sizes : Sizes) (role : Role) (seen : List Event) (event : Event) → is_own role event ≡ true
    → MayFollow sizes seen event → MayJoin sizes role seen (event ∷ [])
may_join sizes role seen event own may history lawful more same =
    (may_later sizes role seen history event lawful own more same may, tt)

-- a connection that is the last on its seat takes commands, one after another
take_all : (sizes : Sizes) (c k : ℕ) (taken : List Taken) (history : List Event) → IsLastOn c k history
    → AllByRecursion MayBeTaken taken → MayAllFollow sizes history (map (took c k) taken)
take_all sizes c k [] history last may = tt
take_all sizes c k (one ∷ taken) history last may =
    let event = took c k one in
    let seats : seats_in (history ++ event ∷ []) ≡ seats_in history = picked_push seats_of history event
    ∙ append-nil (seats_in history) in
    let still : IsLastOn c k (history ++ event ∷ []) = record {
      here = ap (λ ss. slice_get ss k) seats ∙ last.here;
      last = λ later after at. last.last later after (sym (ap (λ ss. slice_get ss later) seats) ∙ at);
    } in
    ((last, may.0), take_all sizes c k taken (history ++ event ∷ []) still may.1)

-- The commands of a seat's last connection may join.
pub take_joins : (sizes : Sizes) (role : Role) (c k : ℕ) (taken : List Taken) (seen : List Event) → role ≡ Seat c
    → IsLastOn c k seen → AllByRecursion MayBeTaken taken → MayJoin sizes role seen (map (took c k) taken)
take_joins sizes role c k taken seen is last may history lawful more same =
    let part : own_part (Seat c) history ≡ own_part (Seat c) seen =
    subst (λ r. own_part r history ≡ own_part r seen) is same in
    take_all sizes c k taken history (last_stays c k seen history more part last) may

-- They are the seat's own.
pub taken_own : (role : Role) (c k : ℕ) (taken : List Taken) → role ≡ Seat c
    → AllByRecursion (λ event. is_own role event ≡ true) (map (took c k) taken)
taken_own role c k [] is = tt
taken_own role c k (one ∷ taken) is =
    (ap (λ r. is_own r (took c k one)) is ∙ eq-eqb c c refl, taken_own role c k taken is)
