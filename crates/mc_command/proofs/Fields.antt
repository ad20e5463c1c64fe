-- Numbers of 32 bits by those of 64.
use Rattle.std.proofs.Common.{◌≡◌, ℕ, ◌^◌, Bool, true, false, ◌&&◌, cond, List, Some, None, nat_lt, refl, arith, inl}
use Rattle.std.proofs.Common.{inr, Result, Ok, Err}
use Rattle.std.proofs.lemmas.Bool.{cases_lt, le-ltb, lt-ltb}
use Rattle.std.specs.Option.{ok_or}
use Rattle.std.specs.Str.Parse.{digits_value}
use Rattle.mc_wire.specs.Number.{number_of, is_digits}
use Rattle.mc_command.specs.declared.error.CommandError.{CommandError}
use Rattle.mc_command.specs.declared.error.CommandError.TheVariants.{BadFormat}
use Rattle.mc_command.specs.Field.{unsigned_of, then_of}

-- a number, where 32 bits have room for it
abbrev pub narrow : ℕ → Result ℕ CommandError
narrow number = cond (nat_lt number (2 ^ 32)) (Ok number) (Err BadFormat)

narrow_again : (number : ℕ)
    → ok_or (cond (nat_lt number (2 ^ 32)) (Some number) None) BadFormat ≡ then_of
    (ok_or (cond (nat_lt number (2 ^ 64)) (Some number) None) BadFormat) narrow
narrow_again number = elim (cases_lt number (2 ^ 32)) [
  | inl below ↦ rw (lt-ltb number (2 ^ 64) (omega arith), lt-ltb number (2 ^ 32) below)
  | inr past ↦ elim (cases_lt number (2 ^ 64)) [
    | inl below ↦ rw (lt-ltb number (2 ^ 64) below, le-ltb number (2 ^ 32) past)
    | inr beyond ↦ rw (le-ltb number (2 ^ 64) beyond, le-ltb number (2 ^ 32) past)
  ]
]

narrow_digits : (digits : Bool) (number : ℕ)
    → ok_or (cond (digits && nat_lt number (2 ^ 32)) (Some number) None) BadFormat ≡ then_of
    (ok_or (cond (digits && nat_lt number (2 ^ 64)) (Some number) None) BadFormat) narrow
narrow_digits true number = narrow_again number
narrow_digits false number = refl

pub unsigned_of-narrow : (word : List ℕ) → unsigned_of (2 ^ 32) word ≡ then_of (unsigned_of (2 ^ 64) word) narrow
unfolding number_of
unsigned_of-narrow word = narrow_digits (is_digits word) (digits_value 10 word)

pub ruleset narrows = unsigned_of-narrow
