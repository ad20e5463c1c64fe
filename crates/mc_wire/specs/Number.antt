-- Numbers in words (protocol.txt, Protocol).
use Rattle.std.specs.Prelude.{ℕ, ◌+◌, ◌^◌, Bool, ◌&&◌, List, drop, length, Option, Some, None, nat_lt, nat_le}
use Rattle.std.specs.Prelude.{if◌then◌else◌, ℤ, pos, neg_ℤ}
use Rattle.std.specs.List.{list_all}
use Rattle.std.specs.Char.{is_ascii_digit}
use Rattle.std.specs.Option.{option_map}
use Rattle.std.specs.Str.Parse.{digits_value, starts_with_minus}
use Rattle.mc_wire.specs.Limits.{digit_limit}

-- 1 to `digit_limit` digits, leading zeros included
abbrev pub is_digits : List ℕ → Bool
is_digits word = nat_lt 0 (length word) && nat_le (length word) digit_limit && list_all is_ascii_digit word

-- the number in a word, if it is below the bound
unfoldable pub number_of : ℕ → List ℕ → Option ℕ
number_of bound word =
    if is_digits word && nat_lt (digits_value 10 word) bound then Some (digits_value 10 word) else None

-- the integer from -2^63 to 2^63-1 in a word: an optional minus, and a number
abbrev pub integer_of : List ℕ → Option ℤ
integer_of word =
    if starts_with_minus word
    then option_map (λ size. neg_ℤ (pos size)) (number_of (2 ^ 63 + 1) (drop 1 word))
    else option_map pos (number_of (2 ^ 63) word)
