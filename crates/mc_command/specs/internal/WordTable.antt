-- Tables of words.
use Rattle.std.specs.Prelude.{ℕ, List, map}
use Rattle.std.specs.Borrow.{Bor}

-- the rows of a table, each word as its bytes
abbrev pub rows_of : {X : Type 0} → List (Bor (List ℕ) × X) → List (List ℕ × X)
rows_of = map (λ row. (row.0.now, row.1))
