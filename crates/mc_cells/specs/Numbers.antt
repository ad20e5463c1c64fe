-- Places as numbers.
use Rattle.std.specs.Prelude.{ℕ, ◌-◌, ◌/◌, ◌%◌, ◌^◌, if◌then◌else◌, nat_lt}
use Rattle.mc_cells.specs.declared.place.Place.{Place}
use Rattle.mc_cells.specs.Kept.{place_at}

-- The place with a number. The numbers of places of long values begin at 2^45.
abbrev pub place_of : ℕ → Place
place_of number =
    if nat_lt number (2 ^ 45) then place_at (number / 8192) (number % 8192)
    else place_at ((number - 2 ^ 45) / 2 ^ 24) ((number - 2 ^ 45) % 2 ^ 24)
