-- What follows from that values are kept, whatever the cells are.
use Rattle.std.specs.Prelude.{ℕ, ◌≡◌, ◌≢◌, ◌<◌, List, ◌∷◌, ◌++◌}
use Rattle.mc_cells.specs.declared.place.Place.{Place}
use Rattle.mc_cells.specs.Kept.{KeptValue}
use Rattle.mc_cells.specs.Contents.{Contents, AreKept, HasValue, value_at}

-- a value is at the place
pub record IsThere (contents : Contents) (place : Place) (value : List ℕ) : Type 0 where
  pub has : HasValue contents place
  pub here : value_at contents place ≡ value

-- A kept value is at its place.
abbrev pub KeptIsThere : Type 0
KeptIsThere =
    (contents : Contents) (before : List KeptValue) (place : Place) (value : List ℕ) (after : List KeptValue)
    → AreKept contents (before ++ (place, value) ∷ after) → IsThere contents place value

-- The order of the kept values does not matter: any of them can be the first.
abbrev pub OrderIsFree : Type 0
OrderIsFree =
    (contents : Contents) (before : List KeptValue) (value : KeptValue) (after : List KeptValue)
    → AreKept contents (before ++ value ∷ after) → AreKept contents (value ∷ (before ++ after))

-- A value that has bytes shares its place with no other.
abbrev pub PlacesDiffer : Type 0
PlacesDiffer =
    (contents : Contents) (before : List KeptValue) (first second : KeptValue) (after : List KeptValue)
    → AreKept contents (first ∷ (before ++ second ∷ after)) → 0 < first.0.len → first.0 ≢ second.0
