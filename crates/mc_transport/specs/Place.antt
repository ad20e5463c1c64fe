-- Which connection a line is.
use Rattle.std.specs.Prelude.{ℕ, Bool, Option, false, None, Some}
use Rattle.mc_wire.specs.Sink.{Sight, Unlisted, sight_out}
use Rattle.mc_ring.specs.Route.{Name}

-- a line of a history; once it has begun, the number of its connection there, and the bytes seen of it at the beginning
pub record Place : Type 0 where
  pub name : Name
  pub begun : Bool
  pub number : ℕ
  pub begin : Sight

-- the place of a line of this history that has not begun
abbrev pub unbegun : Name → Place
unbegun name = record { name = name; begun = false; number = 0; begin = sight_out Unlisted false }

-- the place of a line of this history, by what was shown when it began, if it has, and what was seen of it then
abbrev pub place_by : {T : Type 0} → (T → Sight → Place) → Name → Option T → Sight → Place
place_by place_at name None begin = unbegun name
place_by place_at name (Some seen) begin = place_at seen begin

-- of what is seen of a line, the bytes that it gave and took
abbrev pub bytes_seen : Sight → Sight
bytes_seen now = record { given = now.given; ended = false; reads = None; taken = now.taken; failed = false }
