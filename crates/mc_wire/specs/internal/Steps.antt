-- Steps of parsing words and numbers.
use Rattle.std.specs.Prelude.{ℕ, ◌+◌, ◌*◌, ◌^◌, ◌&&◌, List, [], ◌∷◌, Option, Some, None, nat_lt, if◌then◌else◌, ℤ, pos}
use Rattle.std.specs.Prelude.{neg_ℤ}
use Rattle.std.specs.Char.{digit_value, is_ascii_digit}

-- the words, with this one in front unless it is empty
abbrev pub with_word : List ℕ → List (List ℕ) → List (List ℕ)
with_word [] words = words
with_word (byte ∷ bytes) words = (byte ∷ bytes) ∷ words

-- the value with one more digit, if it is a digit and the result fits in 64 bits
abbrev pub with_digit : ℕ → ℕ → Option ℕ
with_digit value digit =
    if is_ascii_digit digit && nat_lt (value * 10 + digit_value digit) (2 ^ 64)
    then Some (value * 10 + digit_value digit) else None

-- the integer with this magnitude below zero, or above, if it fits in signed 64 bits
abbrev pub negative : ℕ → Option ℤ
negative size = if nat_lt size (2 ^ 63 + 1) then Some (neg_ℤ (pos size)) else None

abbrev pub positive : ℕ → Option ℤ
positive size = if nat_lt size (2 ^ 63) then Some (pos size) else None
