-- Numbers below a bound, by those of 64 bits.
use Rattle.std.proofs.Common.{◌≡◌, ℕ, ◌^◌, ◌≤◌, Bool, true, false, ◌&&◌, cond, List, Option, Some, None, nat_lt, refl}
use Rattle.std.proofs.Common.{arith, inl, inr}
use Rattle.std.proofs.lemmas.Bool.{cases_lt}
use Rattle.std.proofs.lemmas.Bool.Decides.{nat_tests}
use Rattle.std.specs.Str.Parse.{digits_value}
use Rattle.mc_wire.specs.Number.{number_of, is_digits}

-- the number, where it is below the bound
abbrev pub below : ℕ → Option ℕ → Option ℕ
below bound None = None
below bound (Some number) = cond (nat_lt number bound) (Some number) None

below_again : (bound number : ℕ) → bound ≤ 2 ^ 64 → cond (nat_lt number bound) (Some number) None
    ≡ below bound (cond (nat_lt number (2 ^ 64)) (Some number) None)
below_again bound number fits = elim (cases_lt number bound) [
  | inl under ↦
      let first : nat_lt number bound ≡ true = grind (arith, nat_tests) in
      let second : nat_lt number (2 ^ 64) ≡ true = grind (arith, nat_tests) in
      rw (second, first)
  | inr past ↦
      let first : nat_lt number bound ≡ false = grind (arith, nat_tests) in
      elim (cases_lt number (2 ^ 64)) [
        | inl under ↦
            let second : nat_lt number (2 ^ 64) ≡ true = grind (arith, nat_tests) in
            rw (second, first)
        | inr beyond ↦
            let second : nat_lt number (2 ^ 64) ≡ false = grind (arith, nat_tests) in
            rw (second, first)
      ]
]

below_digits : (digits : Bool) (bound number : ℕ) → bound ≤ 2 ^ 64
    → cond (digits && nat_lt number bound) (Some number) None
    ≡ below bound (cond (digits && nat_lt number (2 ^ 64)) (Some number) None)
below_digits true bound number fits = below_again bound number fits
below_digits false bound number fits = refl

pub number_of-below : (bound : ℕ) (word : List ℕ) → bound ≤ 2 ^ 64 → number_of bound word
    ≡ below bound (number_of (2 ^ 64) word)
unfolding number_of
number_of-below bound word fits = below_digits (is_digits word) bound (digits_value 10 word) fits

pub ruleset number_below = number_of-below
