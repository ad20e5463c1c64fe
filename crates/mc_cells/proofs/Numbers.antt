-- A place is the one with its number.
use Rattle.std.proofs.Common.{◌≡◌, ◌+◌, ◌*◌, ◌-◌, ◌^◌, ◌<◌, ◌≤◌, refl, arith}
use Rattle.std.proofs.lemmas.Bool.{lt-ltb, le-ltb}
use Rattle.std.proofs.lemmas.Nat.{div-mul-add, mod-mul-add}
use Rattle.mc_cells.specs.declared.place.Place.{Place}
use Rattle.mc_cells.specs.Numbers.{place_of}

-- that of a short value
pub numbered_short : (place : Place) → place.len < 8192 → place.first < 2 ^ 32
    → place_of (place.first * 8192 + place.len) ≡ place
numbered_short place short few =
    let number = place.first * 8192 + place.len in
    let below : number < 2 ^ 45 = omega (arith, short, few) in
    rw (
      lt-ltb number (2 ^ 45) below,
      div-mul-add place.first 8192 place.len short,
      mod-mul-add place.first 8192 place.len short,
    ) refl

-- that of a long one
pub numbered_long : (place : Place) → place.len < 2 ^ 24
    → place_of (2 ^ 45 + (place.first * 2 ^ 24 + place.len)) ≡ place
numbered_long place fits =
    let rest = place.first * 2 ^ 24 + place.len in
    let above : 2 ^ 45 ≤ 2 ^ 45 + rest = omega arith in
    let less : 2 ^ 45 + rest - 2 ^ 45 ≡ rest = omega arith in
    rw (
      le-ltb (2 ^ 45 + rest) (2 ^ 45) above,
      less,
      div-mul-add place.first (2 ^ 24) place.len fits,
      mod-mul-add place.first (2 ^ 24) place.len fits,
    ) refl
