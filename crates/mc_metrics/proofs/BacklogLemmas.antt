-- What is read of a table of sockets.
use Rattle.std.proofs.Common.{◌≡◌, ℕ, ◌+◌, ◌^◌, ◌<◌, Bool, true, false, ◌&&◌, cond, List, [], ◌∷◌, length, Option, Some}
use Rattle.std.proofs.Common.{None, Result, Ok, Err, nat_eq, nat_lt, not, unwrap_or, refl, sym, ap, ◌∙◌, arith}
use Rattle.std.proofs.lemmas.Bool.Decides.{nat_tests}
use Rattle.std.specs.List.{fold, list_all}
use Rattle.std.specs.Char.{digit_value}
use Rattle.std.specs.Option.{option_map}
use Rattle.std.specs.Result.{result_ok}
use Rattle.std.specs.Str.Parse.{AllDigits, IsNumeral, ParsesUnsigned, digits_value, without_leading_plus}
use Rattle.mc_wire.specs.Words.{is_filled}
use Rattle.mc_metrics.specs.Backlog.{hexadecimal, number_of_digits, saturated}
use denote.Ref.{Bor}

-- sums that stop at the greatest number of 64 bits come to the sum, or to that number
pub saturating_sums : (count : List ℕ → ℕ) (lines : List (List ℕ)) (sum : ℕ)
    → fold (λ before line. saturated (before + count line)) (saturated sum) lines
    ≡ saturated (fold (λ before line. before + count line) sum lines)
saturating_sums count [] sum = refl
saturating_sums count (line ∷ lines) sum =
    let once : saturated (saturated sum + count line) ≡ saturated (sum + count line) = omega arith in
    ap (λ first. fold (λ before line. saturated (before + count line)) first lines) once
    ∙ saturating_sums count lines (sum + count line)

-- a text is filled unless its length is 0
pub filled_if : (text : List ℕ) → not (nat_eq (length text) 0) ≡ is_filled text
filled_if [] = refl
filled_if (byte ∷ bytes) =
    let some : nat_eq (length (byte ∷ bytes)) 0 ≡ false = grind (arith, nat_tests) in
    rw some refl

both : (a b : Bool) → (a && b) ≡ true → (a ≡ true) × (b ≡ true)
both true b h = (refl, h)
both false b h = absurd cc

digits_if : (digits : List ℕ) → list_all (λ digit. nat_lt (digit_value digit) 16) digits ≡ true → AllDigits 16 digits
digits_if [] h = tt
digits_if (digit ∷ digits) h =
    let parts = both (nat_lt (digit_value digit) 16) (list_all (λ x. nat_lt (digit_value x) 16) digits) h in
    (grind (arith, nat_tests), digits_if digits parts.1)

if_digits : (digits : List ℕ) → AllDigits 16 digits → list_all (λ digit. nat_lt (digit_value digit) 16) digits ≡ true
if_digits [] h = refl
if_digits (digit ∷ digits) h =
    let first : nat_lt (digit_value digit) 16 ≡ true = grind (arith, nat_tests) in
    rw first (if_digits digits h.1)

none_unless : (some all below : Bool) (number : ℕ) → (some ≡ true → all ≡ true → below ≡ true → ⊥)
    → cond (some && (all && below)) (Some number) None ≡ None
none_unless true true true number unless = absurd (unless refl refl refl)
none_unless true true false number unless = refl
none_unless true false below number unless = refl
none_unless false all below number unless = refl

-- the value of the digits, from the fact about std's parsing of them
number_if : (digits : List ℕ) → IsNumeral 16 digits × (digits_value 16 digits < 2 ^ 64) → number_of_digits digits
    ≡ Some (digits_value 16 digits)
number_if digits h =
    let some : nat_lt 0 (length digits) ≡ true = grind (arith, nat_tests) in
    let below : nat_lt (digits_value 16 digits) (2 ^ 64) ≡ true = grind (arith, nat_tests) in
    rw (some, if_digits digits h.0.1, below) refl

no_number_if : (digits : List ℕ) → ¬ (IsNumeral 16 digits × (digits_value 16 digits < 2 ^ 64)) → number_of_digits digits
    ≡ None
no_number_if digits none =
    none_unless (nat_lt 0 (length digits)) (list_all (λ digit. nat_lt (digit_value digit) 16) digits)
    (nat_lt (digits_value 16 digits) (2 ^ 64)) (digits_value 16 digits)
    (λ some all below. none ((grind (arith, nat_tests), digits_if digits all), grind (arith, nat_tests)))

-- Parsing a text as a 64-bit number in base 16 returns its hexadecimal number, or fails if it has none.
pub reads_hexadecimal : {E : Type 0} (text : List ℕ) (r : Result ℕ E) → ParsesUnsigned 64 16 text r → result_ok r
    ≡ hexadecimal text
unfolding hexadecimal
reads_hexadecimal text (Ok x) h = ap Some h.1 ∙ sym (number_if (without_leading_plus text) h.0)
reads_hexadecimal text (Err e) none = sym (no_number_if (without_leading_plus text) none)

-- the text behind a reference, or behind another one where there is none
pub text_or : (found : Option (Bor (List ℕ))) (default : Bor (List ℕ)) → (unwrap_or found default).now
    ≡ unwrap_or (option_map (λ x. x.now) found) default.now
text_or None default = refl
text_or (Some x) default = refl
