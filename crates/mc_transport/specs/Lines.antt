-- What a line is read by.
use Rattle.std.specs.Prelude.{ℕ, ◌≡◌, ◌≤◌, List, ◌++◌, length, take, Option, Some, None, Result, Ok, Err}
use Rattle.mc_wire.specs.Sink.{Sight, Trace, Unlisted, Counted, Listed, asked, broke, gave, took}

-- It was read where it had something to give: the first count bytes of the room, or none where it failed. Else it is as
-- it was.
abbrev pub ReadsIfReady : {E : Type 0} → List ℕ → Result (Option ℕ) E → Sight → Sight → Type 0
ReadsIfReady room (Ok (Some count)) old new = new ≡ gave (take count room) (asked old)
ReadsIfReady room (Ok None) old new = new ≡ old
ReadsIfReady room (Err fault) old new = new ≡ broke (asked old)

-- the number of bytes, as far as it is counted
abbrev pub flow : Trace → ℕ
flow Unlisted = 0
flow (Counted count) = count
flow (Listed bytes) = length bytes

-- The line has taken all the bytes that it had taken, as far as they are counted.
abbrev pub HasGrown : Sight → Sight → Type 0
HasGrown old new = flow old.taken ≤ flow new.taken

-- The line took a prefix of what waited, and this is left.
pub record TakesFront (waited left : List ℕ) (old new : Sight) : Type 0 where
  pub front : List ℕ
  pub parts : front ++ left ≡ waited
  pub now : new ≡ took front old
