-- Whose events a token may add, as a history grows.
use Rattle.std.proofs.Common.{◌≡◌, ℕ, ◌+◌, ◌==◌, true, false, inl, inr, List, [], ◌∷◌, ◌++◌, length, refl, sym, ap, ◌∙◌}
use Rattle.std.proofs.Common.{arith, length-append, eqb-true, ne_eqb}
use Rattle.std.specs.Prelude.{nat_le}
use Rattle.std.specs.List.{filter}
use Rattle.std.proofs.lemmas.Bool.Decides.{leb_tells}
use Rattle.mc_model.specs.Grows.{Lengthens}
use Rattle.mc_history.specs.declared.event.Event.{Event}
use Rattle.mc_history.specs.declared.event.Event.TheVariants.{Opened, Took, Ran}
use Rattle.mc_history.specs.declared.knowledge.Role.{Role}
use Rattle.mc_history.specs.declared.knowledge.Role.TheVariants.{Reader, Seat, Shard, Rest}
use Rattle.mc_history.specs.Worlds.{IsOpened, seats_in, seats_of}
use Rattle.mc_history.specs.Roles.{AreApart, IsWithin, is_own, own_part}
use Rattle.mc_history.proofs.Lists.{filter_within, filter_yes, lengthens_picked}

-- An event of its own comes last in a token's part.
pub own_yes : (role : Role) (history : List Event) (event : Event) → is_own role event ≡ true
    → own_part role (history ++ event ∷ []) ≡ own_part role history ++ event ∷ []
own_yes role history event is = filter_yes (is_own role) history event is

-- A connection that was opened is so later.
pub opened_later : (k : ℕ) (seen history : List Event) → Lengthens seen history → IsOpened k seen → IsOpened k history
opened_later k seen history more is =
    let seats = lengthens_picked seats_of seen history more in
    let long = ap length seats.1 ∙ length-append (seats_in seen) seats.0 in
    omega (arith, is, long)

-- What is apart is so the other way round.
pub apart_swap : (one other : Role) → AreApart one other → AreApart other one
apart_swap one other apart event is =
    elim (is_own one event) as (λ b. is_own one event ≡ b → b ≡ false) [
      | true ↦ λ mine. absurd (cc (is, apart event mine))
      | false ↦ λ not. refl
    ] refl

-- A reader adds nothing that anybody may add.
pub apart_reader : (role : Role) → AreApart role Reader
apart_reader role event is = refl

-- who is behind another is from it on, and isn't it
behind_from : (from n : ℕ) → nat_le (from + 1) n ≡ true → nat_le from n ≡ true
behind_from from n is = elim (leb_tells from n) [
  | inl from_it ↦ from_it.0
  | inr not ↦ elim (leb_tells (from + 1) n) [
    | inl behind ↦ let after = behind.1 in let before = not.1 in absurd (omega (arith, after, before))
    | inr none ↦ absurd (cc (is, none.0))
  ]
]

behind_other : (from n : ℕ) → nat_le (from + 1) n ≡ true → (n == from) ≡ false
behind_other from n is = elim (leb_tells (from + 1) n) [
  | inl behind ↦ ne_eqb n from (λ same. let after = behind.1 in absurd (omega (arith, same, after)))
  | inr not ↦ absurd (cc (is, not.0))
]

-- and so is whoever it is
itself_from : (from n : ℕ) → (n == from) ≡ true → nat_le from n ≡ true
itself_from from n is = elim (leb_tells from n) [
  | inl from_it ↦ from_it.0
  | inr not ↦ let same = eqb-true n from is in let before = not.1 in absurd (omega (arith, same, before))
]

-- A seat is none of those behind it.
pub apart_seats : (seats shards : ℕ) → AreApart (Rest (seats + 1) shards) (Seat seats)
apart_seats seats shards (Opened seat) is = behind_other seats seat is
apart_seats seats shards (Took seat connection command moment server given_up) is = behind_other seats seat is
apart_seats seats shards (Ran shard asker piece answer) is = refl

-- so is a shard
pub apart_shards : (seats shards : ℕ) → AreApart (Rest seats (shards + 1)) (Shard shards)
apart_shards seats shards (Opened seat) is = refl
apart_shards seats shards (Took seat connection command moment server given_up) is = refl
apart_shards seats shards (Ran shard asker piece answer) is = behind_other shards shard is

-- Those behind a seat are among those from it on.
pub later_seats_within : (seats shards : ℕ) → IsWithin (Rest (seats + 1) shards) (Rest seats shards)
later_seats_within seats shards (Opened seat) is = behind_from seats seat is
later_seats_within seats shards (Took seat connection command moment server given_up) is = behind_from seats seat is
later_seats_within seats shards (Ran shard asker piece answer) is = is

-- those behind a shard too
pub later_shards_within : (seats shards : ℕ) → IsWithin (Rest seats (shards + 1)) (Rest seats shards)
later_shards_within seats shards (Opened seat) is = is
later_shards_within seats shards (Took seat connection command moment server given_up) is = is
later_shards_within seats shards (Ran shard asker piece answer) is = behind_from shards shard is

-- And so is the seat itself.
pub first_seat_within : (seats shards : ℕ) → IsWithin (Seat seats) (Rest seats shards)
first_seat_within seats shards (Opened seat) is = itself_from seats seat is
first_seat_within seats shards (Took seat connection command moment server given_up) is = itself_from seats seat is
first_seat_within seats shards (Ran shard asker piece answer) is = absurd (cc is)

-- and the shard itself
pub first_shard_within : (seats shards : ℕ) → IsWithin (Shard shards) (Rest seats shards)
first_shard_within seats shards (Opened seat) is = absurd (cc is)
first_shard_within seats shards (Took seat connection command moment server given_up) is = absurd (cc is)
first_shard_within seats shards (Ran shard asker piece answer) is = itself_from shards shard is

-- What is apart from a role is apart from one within it.
pub apart_within : (one other within : Role) → AreApart one other → IsWithin within other → AreApart one within
apart_within one other within apart inside =
    apart_swap within one (λ event is. apart_swap one other apart event (inside event is))

-- What lies within a role is apart from what that is apart from.
pub within_apart : (within one other : Role) → IsWithin within one → AreApart one other → AreApart within other
within_apart within one other inside apart event is = apart event (inside event is)

-- A reader has no part.
pub none_own : (history : List Event) → own_part Reader history ≡ []
none_own [] = refl
none_own (event ∷ history) = none_own history

-- Where two histories have the same part for a role, they have the same for one within it.
pub part_within : (within role : Role) (one other : List Event) → IsWithin within role → own_part role one
    ≡ own_part role other → own_part within one ≡ own_part within other
part_within within role one other inside same =
    sym (filter_within (is_own within) (is_own role) inside one)
    ∙ (ap (filter (is_own within)) same ∙ filter_within (is_own within) (is_own role) inside other)
