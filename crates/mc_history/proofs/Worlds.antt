-- What a history says where it has one event more, and what an actor's own part says.
use Rattle.std.proofs.Common.{◌≡◌, ℕ, zero, suc, ◌<◌, inl, inr, length, Some, arith, length-append, ◌==◌, Bool, true}
use Rattle.std.proofs.Common.{false, cond, List, [], ◌∷◌, refl, sym, ap, ◌∙◌, eqb-true}
use Rattle.std.specs.Prelude.{nat_le}
use Rattle.std.specs.List.{filter, slice_get}
use Rattle.std.proofs.lemmas.Bool.Decides.{eqb_tells}
use Rattle.mc_ring.proofs.Lists.{get_last}
use Rattle.mc_command.specs.declared.command.Command.{Command}
use Rattle.mc_reply.specs.declared.server_stats.ServerStats.{ServerStats}
use Rattle.mc_conn.proofs.Gets.{get_front}
use Rattle.mc_model.specs.Log.{Entry, on_shard}
use Rattle.mc_model.specs.World.{Link}
use Rattle.mc_model.proofs.Lists.{push_cases}
use Rattle.mc_history.specs.declared.event.Event.{Event}
use Rattle.mc_history.specs.declared.event.Event.TheVariants.{Opened, Took, Ran}
use Rattle.mc_history.specs.declared.knowledge.Role.{Role}
use Rattle.mc_history.specs.declared.knowledge.Role.TheVariants.{Reader, Seat, Shard, Rest}
use Rattle.mc_history.specs.Worlds.{link_in, links_in, ran_in, seats_in}
use Rattle.mc_history.specs.Roles.{IsWithin, is_own, own_part}
use Rattle.mc_history.proofs.Roles.{part_within}

-- What a shard ran is what its own part says.
pub shard_part : (s : ℕ) (history : List Event) → ran_in (own_part (Shard s) history) ≡ on_shard s (ran_in history)
shard_part s [] = refl
shard_part s (Opened seat ∷ history) = shard_part s history
shard_part s (Took seat connection command moment server given_up ∷ history) = shard_part s history
shard_part s (Ran shard asker piece answer ∷ history) =
    let rest = shard_part s history in
    let event = Ran shard asker piece answer in
    let entry : Entry = record { shard = shard; asker = asker; piece = piece; answer = answer } in
    elim (shard == s) as (λ b. ran_in (cond b (event ∷ own_part (Shard s) history) (own_part (Shard s) history))
    ≡ cond b (entry ∷ on_shard s (ran_in history)) (on_shard s (ran_in history))) [
      | true ↦ ap (λ log. entry ∷ log) rest
      | false ↦ rest
    ]

-- Who may add what a shard did acts for that shard.
pub acts_for_shard : (role : Role) (event : Event) (s : ℕ) → is_own (Shard s) event ≡ true → is_own role event ≡ true
    → IsWithin (Shard s) role
acts_for_shard role (Opened seat) s of is other mine = absurd (cc of)
acts_for_shard role (Took seat connection command moment server given_up) s of is other mine = absurd (cc of)
acts_for_shard role (Ran shard asker piece answer) s of is (Opened seat) mine = absurd (cc mine)
acts_for_shard role (Ran shard asker piece answer) s of is (Took seat connection command moment server given_up) mine =
    absurd (cc mine)
acts_for_shard Reader (Ran shard asker piece answer) s of is (Ran shard' asker' piece' answer') mine = absurd (cc is)
acts_for_shard (Seat number) (Ran shard asker piece answer) s of is (Ran shard' asker' piece' answer') mine =
    absurd (cc is)
acts_for_shard (Shard index) (Ran shard asker piece answer) s of is (Ran shard' asker' piece' answer') mine =
    ap (λ t. t == index) (eqb-true shard' s mine ∙ sym (eqb-true shard s of)) ∙ is
acts_for_shard (Rest seats shards) (Ran shard asker piece answer) s of is (Ran shard' asker' piece' answer') mine =
    ap (λ t. nat_le shards t) (eqb-true shard' s mine ∙ sym (eqb-true shard s of)) ∙ is

-- Where two histories have the same part for whoever may add what a shard did, that shard ran the same in both.
pub same_entries : (role : Role) (one other : List Event) (event : Event) (s : ℕ) → is_own (Shard s) event ≡ true
    → is_own role event ≡ true → own_part role one ≡ own_part role other → on_shard s (ran_in one)
    ≡ on_shard s (ran_in other)
same_entries role one other event s of is same =
    sym (shard_part s one) ∙
    (ap ran_in (part_within (Shard s) role one other (acts_for_shard role event s of is) same) ∙ shard_part s other)

-- whether a token of this role may add what was done on a seat
abbrev own_seat : Role → ℕ → Bool
own_seat Reader c = false
own_seat (Seat number) c = c == number
own_seat (Shard index) c = false
own_seat (Rest seats shards) c = nat_le seats c

own_opened : (role : Role) (seat : ℕ) → is_own role (Opened seat) ≡ own_seat role seat
own_opened Reader seat = refl
own_opened (Seat number) seat = refl
own_opened (Shard index) seat = refl
own_opened (Rest seats shards) seat = refl

own_took : (role : Role) (seat connection : ℕ) (command : Command) (moment : ℕ) (server : ServerStats) (given_up : Bool)
    → is_own role (Took seat connection command moment server given_up) ≡ own_seat role seat
own_took Reader seat connection command moment server given_up = refl
own_took (Seat number) seat connection command moment server given_up = refl
own_took (Shard index) seat connection command moment server given_up = refl
own_took (Rest seats shards) seat connection command moment server given_up = refl

-- Of what was done on one seat it may add all or nothing.
own_of_seat : (role : Role) (event : Event) (c : ℕ) → is_own (Seat c) event ≡ true → is_own role event ≡ own_seat role c
own_of_seat role (Opened seat) c of = own_opened role seat ∙ ap (own_seat role) (eqb-true seat c of)
own_of_seat role (Took seat connection command moment server given_up) c of =
    own_took role seat connection command moment server given_up ∙ ap (own_seat role) (eqb-true seat c of)
own_of_seat role (Ran shard asker piece answer) c of = absurd (cc of)

-- Who may add what was done on a seat acts for that seat.
pub acts_for_seat : (role : Role) (event : Event) (c : ℕ) → is_own (Seat c) event ≡ true → is_own role event ≡ true
    → IsWithin (Seat c) role
acts_for_seat role event c of is other mine = own_of_seat role other c mine ∙ (sym (own_of_seat role event c of) ∙ is)

-- The connections opened on a seat are those of its part.
pub seats_part : (c : ℕ) (history : List Event) → seats_in (own_part (Seat c) history)
    ≡ filter (λ seat. seat == c) (seats_in history)
seats_part c [] = refl
seats_part c (Opened seat ∷ history) =
    let rest = seats_part c history in
    let part = own_part (Seat c) history in
    elim (seat == c) as (λ b. seats_in (cond b (Opened seat ∷ part) part)
    ≡ cond b (seat ∷ filter (λ one. one == c) (seats_in history)) (filter (λ one. one == c) (seats_in history))) [
      | true ↦ ap (λ seats. seat ∷ seats) rest
      | false ↦ rest
    ]
seats_part c (Took seat connection command moment server given_up ∷ history) =
    let rest = seats_part c history in
    let event = Took seat connection command moment server given_up in
    let part = own_part (Seat c) history in
    elim (seat == c) as (λ b. seats_in (cond b (event ∷ part) part) ≡ filter (λ one. one == c) (seats_in history)) [
      | true ↦ rest
      | false ↦ rest
    ]
seats_part c (Ran shard asker piece answer ∷ history) = seats_part c history

-- so many connections
links_count : (count : ℕ) (history : List Event) → length (links_in count history) ≡ count
links_count zero history = refl
links_count (suc count) history =
    let long = length-append (links_in count history) (link_in count history ∷ []) in
    let rest = links_count count history in
    omega (arith, long, rest)

-- The first connections of a history are these, by their numbers.
pub links_are : (count k : ℕ) (link : Link) (history : List Event) → slice_get (links_in count history) k ≡ Some link
    → (k < count) × (link ≡ link_in k history)
links_are zero k link history here = absurd (cc)
links_are (suc count) k link history here =
    elim (push_cases (links_in count history) (link_in count history) k link here) [
      | inl old ↦ let rest = links_are count k link history old in let below = rest.0 in (omega (arith, below), rest.1)
      | inr new ↦
          let at : k ≡ count = new.0 ∙ links_count count history in
          (omega (arith, at), new.1 ∙ ap (λ n. link_in n history) (sym at))
    ]

-- And each of them is there.
pub links_there : (count k : ℕ) (history : List Event) → k < count → slice_get (links_in count history) k
    ≡ Some (link_in k history)
links_there zero k history below = absurd (omega (arith, below))
links_there (suc count) k history below = elim (eqb_tells k count) [
  | inl last ↦
      let at : k ≡ length (links_in count history) = last.1 ∙ sym (links_count count history) in
      ap (λ n. slice_get (links_in (suc count) history) n) at ∙
      (get_last (links_in count history) (link_in count history) ∙ ap (λ n. Some (link_in n history)) (sym last.1))
  | inr other ↦
      let apart = other.1 in
      get_front (links_in count history) (link_in count history ∷ []) k (link_in k history)
      (links_there count k history (omega (arith, below, apart)))
]
