-- Parsing the rest of a word continues from the value so far.
use Rattle.std.proofs.Common.{◌≡◌, ℕ, ◌+◌, ◌*◌, ◌^◌, ◌<◌, ◌≤◌, Bool, true, false, ◌&&◌, cond, List, [], ◌∷◌, length}
use Rattle.std.proofs.Common.{Option, Some, None, Ok, Err, nat_lt, nat_le, if◌then◌else◌, option_and_then, drop, refl}
use Rattle.std.proofs.Common.{sym, arith, inl, inr, lit≤, ℤ, pos, neg_ℤ}
use Rattle.std.proofs.lemmas.Bool.{cases_lt}
use Rattle.std.specs.List.{list_all}
use Rattle.std.specs.Char.{digit_value, is_ascii_digit}
use Rattle.std.specs.Option.{option_map, ok_or}
use Rattle.std.specs.Str.Parse.{digits_value, digits_value_after, starts_with_minus}
use Rattle.std.proofs.lemmas.Bool.Decides.{nat_tests}
use Rattle.mc_wire.specs.Number.{is_digits, number_of, integer_of}
use Rattle.mc_wire.specs.internal.Steps.{with_digit, negative, positive}
use Rattle.mc_wire.specs.declared.error.WireError.{WireError}
use Rattle.mc_wire.specs.declared.error.WireError.TheVariants.{NotNumber}

-- what reading the rest of a word gives, from the value so far
abbrev pub read_from : ℕ → List ℕ → Option ℕ
read_from value [] = Some value
read_from value (digit ∷ digits) =
    cond (is_ascii_digit digit && nat_lt (value * 10 + digit_value digit) (2 ^ 64))
    (read_from (value * 10 + digit_value digit) digits) None

value_grows : (value : ℕ) (digits : List ℕ) → value ≤ digits_value_after 10 value digits
value_grows value [] = omega arith
value_grows value (digit ∷ digits) = omega (arith, value_grows (value * 10 + digit_value digit) digits)

abbrev all_read : ℕ → List ℕ → Option ℕ
all_read value digits =
    cond (list_all is_ascii_digit digits && nat_lt (digits_value_after 10 value digits) (2 ^ 64))
    (Some (digits_value_after 10 value digits)) None

none_and : (a : Bool) (n : ℕ) → cond {A = Option ℕ} (a && false) (Some n) None ≡ None
none_and true n = refl
none_and false n = refl

step : (a : Bool) (value : ℕ) (digits : List ℕ) → (value < 2 ^ 64 → read_from value digits ≡ all_read value digits)
    → cond (a && nat_lt value (2 ^ 64)) (read_from value digits) None
    ≡ cond ((a && list_all is_ascii_digit digits) && nat_lt (digits_value_after 10 value digits) (2 ^ 64))
    (Some (digits_value_after 10 value digits)) None
step false value digits rest = refl
step true value digits rest = elim (cases_lt value (2 ^ 64)) [
  | inl below ↦
      let test : nat_lt value (2 ^ 64) ≡ true = grind (arith, nat_tests) in
      rw test (rest below)
  | inr past ↦
      let grows = value_grows value digits in
      let test : nat_lt value (2 ^ 64) ≡ false = grind (arith, nat_tests) in
      let whole : nat_lt (digits_value_after 10 value digits) (2 ^ 64) ≡ false = grind (arith, nat_tests) in
      rw (test, whole) (sym (none_and (list_all is_ascii_digit digits) (digits_value_after 10 value digits)))
]

pub read_from_is : (value : ℕ) (digits : List ℕ) → value < 2 ^ 64 → read_from value digits ≡ all_read value digits
read_from_is value [] small =
    let test : nat_lt value (2 ^ 64) ≡ true = grind (arith, nat_tests) in
    rw test
read_from_is value (digit ∷ digits) small =
    step (is_ascii_digit digit) (value * 10 + digit_value digit) digits
    (read_from_is (value * 10 + digit_value digit) digits)

-- a word of a length that numbers have
pub number_of_is : (word : List ℕ) → 0 < length word → length word ≤ 20 → number_of (2 ^ 64) word ≡ read_from 0 word
unfolding number_of
number_of_is word some short =
    let digits : (nat_lt 0 (length word) ≡ true) × (nat_le (length word) 20 ≡ true) =
    (grind (arith, nat_tests), grind (arith, nat_tests)) in
    rw (digits.0, digits.1) (sym (read_from_is 0 word (omega arith)))

-- a word of another length
pub number_of-unfit : (word : List ℕ) → (0 < length word → 20 < length word) → number_of (2 ^ 64) word ≡ None
unfolding number_of
number_of-unfit word unfit = grind (arith, nat_tests)

stop : (t : Bool) (n : ℕ) (o : Option ℕ) → None ≡ cond t (Some n) None → cond t o None ≡ None
stop true n o h = absurd cc
stop false n o h = refl

-- what is no more digit of the number ends the reading
pub read_from-stop : (value digit : ℕ) (digits : List ℕ) → None ≡ with_digit value digit
    → read_from value (digit ∷ digits) ≡ None
read_from-stop value digit digits h =
    stop (is_ascii_digit digit && nat_lt (value * 10 + digit_value digit) (2 ^ 64)) (value * 10 + digit_value digit)
    (read_from (value * 10 + digit_value digit) digits) h

-- a number below a smaller bound, from that of 64 bits
narrowed : (f : ℕ → ℤ) (bound n : ℕ) (digits : Bool) → bound ≤ 2 ^ 64 →
    option_map f (if digits && nat_lt n bound then Some n else None)
    ≡ option_and_then (λ m. if nat_lt m bound then Some (f m) else None)
    (if digits && nat_lt n (2 ^ 64) then Some n else None)
narrowed f bound n digits small = grind (arith, nat_tests)

-- A word with a minus denotes the negative of the number behind it, if that fits in signed 64 bits.
pub minus_is : (word digits : List ℕ) → starts_with_minus word ≡ true → digits ≡ drop 1 word → integer_of word
    ≡ option_and_then negative (number_of (2 ^ 64) digits)
unfolding number_of
minus_is word digits minus rest =
    rw (minus, rest) (narrowed (λ n. neg_ℤ (pos n)) (2 ^ 63 + 1) (digits_value 10 (drop 1 word))
    (is_digits (drop 1 word)) (lit≤ tt))

-- A word without a minus denotes its number, if that fits in signed 64 bits.
pub plain_is : (word : List ℕ) → starts_with_minus word ≡ false → integer_of word
    ≡ option_and_then positive (number_of (2 ^ 64) word)
unfolding number_of
plain_is word plain = rw plain (narrowed pos (2 ^ 63) (digits_value 10 word) (is_digits word) (lit≤ tt))

-- what the reading of the digits gives for the whole word
pub unread : (o : Option ℕ) (f : ℕ → Option ℤ) (e : WireError) (integer : Option ℤ) → integer ≡ option_and_then f o
    → Err e ≡ ok_or o NotNumber → Err e ≡ ok_or integer NotNumber
unread None f e integer is h = rw is (cc)
unread (Some n) f e integer is h = absurd cc

-- If the digits are a number, the word denotes it with its sign, or nothing if that doesn't fit.
pub read : (o : Option ℕ) (f : ℕ → Option ℤ) (n : ℕ) (integer : Option ℤ) → integer ≡ option_and_then f o → Ok n
    ≡ ok_or o NotNumber → ok_or (f n) NotNumber ≡ ok_or integer NotNumber
read None f n integer is h = absurd cc
read (Some m) f n integer is h = let same : n ≡ m = cc in rw (is, same)
