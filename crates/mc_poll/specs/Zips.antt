-- Two lists, element by element.
use Rattle.std.specs.Prelude.{List, [], ◌∷◌}

-- The lists have the same length, and the relation holds for the elements at each index.
abbrev pub Zips : {A B : Type 0} → (A → B → Type 0) → List A → List B → Type 0
Zips R [] [] = Unit {0}
Zips R [] (y ∷ ys) = ⊥
Zips R (x ∷ xs) [] = ⊥
Zips R (x ∷ xs) (y ∷ ys) = R x y × Zips R xs ys
