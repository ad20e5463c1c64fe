-- The pieces of a value.
use Rattle.std.proofs.Common.{◌≡◌, ℕ, ◌+◌, ◌≤◌, List, length, ◌++◌, take, drop, sym}
use Rattle.std.proofs.Common.{ap, ◌∙◌, arith, length-drop, take-append-drop, drop-drop, [], ◌∷◌, refl, length-take-le}
use borrow.Rule.Slice.PartMut.{put_mid, post_of}

-- a piece and what is behind it
pub piece_joined : (bytes : List ℕ) (n m : ℕ) → m ≡ n + 60 → take 60 (drop n bytes) ++ drop m bytes ≡ drop n bytes
piece_joined bytes n m sum =
    rw sum (ap (λ xs. take 60 (drop n bytes) ++ xs) (sym (drop-drop 60 n bytes)) ∙ take-append-drop 60 (drop n bytes))

-- what is behind a piece is shorter by the piece
pub piece_length : (bytes : List ℕ) (n m : ℕ) → m ≡ n + 60 → m ≤ length bytes → length (drop m bytes) + 60
    ≡ length (drop n bytes)
piece_length bytes n m sum within = omega (arith, length-drop m bytes, length-drop n bytes, sum, within)

drop_front : (xs ys : List ℕ) (n : ℕ) → n ≡ length xs → drop n (xs ++ ys) ≡ ys
drop_front [] ys n is = rw is refl
drop_front (x ∷ xs) ys n is = rw is (drop_front xs ys (length xs) refl)

take_front : (xs ys : List ℕ) (n : ℕ) → n ≡ length xs → take n (xs ++ ys) ≡ xs
take_front [] ys n is = rw is refl
take_front (x ∷ xs) ys n is = rw is (ap (λ zs. x ∷ zs) (take_front xs ys (length xs) refl))

-- what is written in the middle is there
pub middle_written : (xs ys : List ℕ) (at k n : ℕ) → at ≤ length xs → length ys ≡ n
    → take n (drop at (put_mid at k xs ys)) ≡ ys
middle_written xs ys at k n within len =
    let front = take at xs in
    rw (drop_front front (ys ++ post_of at k xs) at (sym (length-take-le at xs within)))
    (take_front ys (post_of at k xs) n (sym len))
