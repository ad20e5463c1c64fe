-- The first space of a text whose front has none.
use Rattle.std.proofs.Common.{◌≡◌, ℕ, ◌+◌, ◌≤◌, Bool, true, false, cond, not, ◌||◌, List, [], ◌∷◌, ◌++◌, length, take}
use Rattle.std.proofs.Common.{drop, Some, None, nat_lt, arith, suc, sym, ap, ◌∙◌, length-append}
use Rattle.std.specs.List.{list_any, position, position_or_len}
use Rattle.std.specs.Option.{option_map}
use Rattle.std.proofs.lemmas.Bool.Decides.{nat_tests}
use Rattle.std.proofs.lemmas.List.{take-append-drop, length-take-le}
use Rattle.std.proofs.lemmas.List.Folds.{list_any-append}
use Rattle.std.proofs.Math.Seq.{take-add}
use Rattle.mc_wire.specs.Words.{is_space}

behind : (here there : Bool) (found front rest : ℕ) → (here || there) ≡ false → (there ≡ false → found ≡ front + rest)
    → cond (not here) (1 + found) 0 ≡ suc front + rest
behind true there found front rest none same = absurd cc
behind false there found front rest none same = let e : found ≡ front + rest = same none in omega arith

first_behind : (p : ℕ → Bool) (front rest : List ℕ) → list_any p front ≡ false → position_or_len p (front ++ rest)
    ≡ length front + position_or_len p rest
first_behind p [] rest none = omega arith
first_behind p (byte ∷ front) rest none =
    behind (p byte) (list_any p front) (position_or_len p (front ++ rest)) (length front) (position_or_len p rest) none
    (first_behind p front rest)

shifted : (m n k : ℕ) → cond (nat_lt (m + n) (m + k)) (Some (m + n)) None
    ≡ option_map (λ i. m + i) (cond (nat_lt n k) (Some n) None)
shifted m n k = grind (arith, nat_tests)

position_behind : (p : ℕ → Bool) (front rest : List ℕ) → list_any p front ≡ false → position p (front ++ rest)
    ≡ option_map (λ i. length front + i) (position p rest)
position_behind p front rest none =
    rw (first_behind p front rest none, length-append front rest)
    (shifted (length front) (position_or_len p rest) (length rest))

-- A front without a space, and 16 bytes more that have none.
pub none_further : (text : List ℕ) (passed : ℕ) → list_any is_space (take passed text) ≡ false
    → list_any is_space (take 16 (drop passed text)) ≡ false → list_any is_space (take (passed + 16) text) ≡ false
none_further text passed none more =
    rw (take-add passed 16 text, list_any-append is_space (take passed text) (take 16 (drop passed text)), none, more)

-- The first space follows a front without spaces.
behind_front : (text : List ℕ) (passed : ℕ) → passed ≤ length text → list_any is_space (take passed text) ≡ false
    → position is_space text ≡ option_map (λ i. passed + i) (position is_space (drop passed text))
behind_front text passed within none =
    let parts = position_behind is_space (take passed text) (drop passed text) none in
    let whole = take-append-drop passed text in
    let len : length (take passed text) ≡ passed = length-take-le passed text within in
    simp (whole, len) at parts

-- Where the front of a text has no space, the first space behind it is the first of the text.
pub found_behind : (text : List ℕ) (passed at : ℕ) → passed ≤ length text → list_any is_space (take passed text) ≡ false
    → Some at ≡ position is_space (drop passed text) → Some (passed + at) ≡ position is_space text
found_behind text passed at within none found =
    sym (behind_front text passed within none ∙ ap (option_map (λ i. passed + i)) (sym found))

-- Where neither the front of a text nor what is behind it has a space, the text has none.
pub none_behind : (text : List ℕ) (passed : ℕ) → passed ≤ length text → list_any is_space (take passed text) ≡ false
    → None ≡ position is_space (drop passed text) → None ≡ position is_space text
none_behind text passed within none found =
    sym (behind_front text passed within none ∙ ap (option_map (λ i. passed + i)) (sym found))
