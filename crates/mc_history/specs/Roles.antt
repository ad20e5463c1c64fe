-- Whose events a token may add.
use Rattle.std.specs.Prelude.{ℕ, ◌≡◌, ◌==◌, Bool, true, false, List, filter, nat_le}
use Rattle.mc_history.specs.declared.event.Event.{Event}
use Rattle.mc_history.specs.declared.event.Event.TheVariants.{Opened, Took, Ran}
use Rattle.mc_history.specs.declared.knowledge.Role.{Role}
use Rattle.mc_history.specs.declared.knowledge.Role.TheVariants.{Reader, Seat, Shard, Rest}

-- whether this was done on a seat
abbrev pub is_of_seat : ℕ → Event → Bool
is_of_seat c (Opened seat) = seat == c
is_of_seat c (Took seat connection command moment server given_up) = seat == c
is_of_seat c (Ran shard asker piece answer) = false

-- whether a shard did this
abbrev pub is_of_shard : ℕ → Event → Bool
is_of_shard s (Opened seat) = false
is_of_shard s (Took seat connection command moment server given_up) = false
is_of_shard s (Ran shard asker piece answer) = shard == s

-- whether this was done on a seat from this one on, or by a shard from that one on
abbrev pub is_of_rest : ℕ → ℕ → Event → Bool
is_of_rest seats shards (Opened seat) = nat_le seats seat
is_of_rest seats shards (Took seat connection command moment server given_up) = nat_le seats seat
is_of_rest seats shards (Ran shard asker piece answer) = nat_le shards shard

-- whether a token of this role may add this
abbrev pub is_own : Role → Event → Bool
is_own Reader event = false
is_own (Seat number) event = is_of_seat number event
is_own (Shard index) event = is_of_shard index event
is_own (Rest seats shards) event = is_of_rest seats shards event

-- the seat that a token may act for
abbrev pub seat_of : Role → ℕ
seat_of Reader = 0
seat_of (Seat number) = number
seat_of (Shard index) = 0
seat_of (Rest seats shards) = seats

-- of a history what tokens of this role added
abbrev pub own_part : Role → List Event → List Event
own_part role history = filter (is_own role) history

-- What one of them may add the other one may not.
abbrev pub AreApart : Role → Role → Type 0
AreApart one other = (event : Event) → is_own one event ≡ true → is_own other event ≡ false

-- What the first may add the second may too.
abbrev pub IsWithin : Role → Role → Type 0
IsWithin one other = (event : Event) → is_own one event ≡ true → is_own other event ≡ true
