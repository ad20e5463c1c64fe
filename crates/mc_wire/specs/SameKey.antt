-- Equality of keys: they are equal if their bytes are.
use Rattle.std.specs.Prelude.{ℕ, Bool, List, nat_eq}
use Rattle.std.specs.Cmp.Lexicographic.{pointwise}

abbrev pub same_key : List ℕ → List ℕ → Bool
same_key = pointwise nat_eq
