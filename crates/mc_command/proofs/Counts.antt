-- The counts of blocks by numbers of 64 bits.
use Rattle.std.proofs.Common.{◌≡◌, ◌<◌, ◌≤◌, ◌-◌, ℕ, ◌^◌, Bool, true, false, ◌&&◌, cond, List, Option, Some, None}
use Rattle.std.proofs.Common.{nat_lt, refl, sym, ap, ◌∙◌, arith, inl, inr, Result, Ok, Err}
use Rattle.std.proofs.lemmas.Bool.{cases_lt, le-ltb, lt-ltb}
use Rattle.std.specs.Option.{ok_or}
use Rattle.std.specs.Str.Parse.{digits_value}
use Rattle.mc_wire.specs.Number.{number_of, is_digits}
use Rattle.mc_command.specs.declared.error.CommandError.{CommandError}
use Rattle.mc_command.specs.declared.error.CommandError.TheVariants.{BadFormat}
use Rattle.mc_command.specs.declared.rules.Rules.{Rules}
use Rattle.mc_command.specs.Blocks.{block_count, count_bound}
use Rattle.mc_command.specs.Field.{unsigned_of}
use Rattle.mc_command.specs.Rules.{is_drop_in}

-- a number that was read, where it is less than the bound
abbrev below : ℕ → Result ℕ CommandError → Option ℕ
below bound (Ok number) = cond (nat_lt number bound) (Some number) None
below bound (Err refusal) = None

below_again : (bound number : ℕ) → bound ≤ 2 ^ 64 → cond (nat_lt number bound) (Some number) None
    ≡ below bound (ok_or (cond (nat_lt number (2 ^ 64)) (Some number) None) BadFormat)
below_again bound number small = elim (cases_lt number bound) [
  | inl less ↦ rw (lt-ltb number (2 ^ 64) (omega arith), lt-ltb number bound less) refl
  | inr more ↦ elim (cases_lt number (2 ^ 64)) [
    | inl less ↦ rw (lt-ltb number (2 ^ 64) less, le-ltb number bound more) refl
    | inr beyond ↦ rw (le-ltb number (2 ^ 64) beyond, le-ltb number bound more) refl
  ]
]

below_digits : (bound : ℕ) (digits : Bool) (number : ℕ) → bound ≤ 2 ^ 64
    → cond (digits && nat_lt number bound) (Some number) None
    ≡ below bound (ok_or (cond (digits && nat_lt number (2 ^ 64)) (Some number) None) BadFormat)
below_digits bound true number small = below_again bound number small
below_digits bound false number small = refl

bounds : (drop_in : Bool) → cond drop_in (2 ^ 31 - 2) (2 ^ 32) ≤ 2 ^ 64
bounds true = omega arith
bounds false = omega arith

counted : (rules : Rules) (word : List ℕ) → block_count rules word
    ≡ below (count_bound rules) (unsigned_of (2 ^ 64) word)
unfolding number_of
counted rules word =
    below_digits (count_bound rules) (is_digits word) (digits_value 10 word) (bounds (is_drop_in rules))

-- a count below the bound
pub read_below : (rules : Rules) (word : List ℕ) (count : ℕ) → Ok count ≡ unsigned_of (2 ^ 64) word
    → count < count_bound rules → Some count ≡ block_count rules word
read_below rules word count read less =
    sym (counted rules word ∙
    (ap (below (count_bound rules)) (sym read) ∙ rw (lt-ltb count (count_bound rules) less) refl))

-- a number that is no count
pub read_beyond : (rules : Rules) (word : List ℕ) (number : ℕ) → Ok number ≡ unsigned_of (2 ^ 64) word
    → count_bound rules ≤ number → None ≡ block_count rules word
read_beyond rules word number read more =
    sym (counted rules word ∙
    (ap (below (count_bound rules)) (sym read) ∙ rw (le-ltb number (count_bound rules) more) refl))

-- no number
pub not_read : (rules : Rules) (word : List ℕ) (refusal : CommandError) → Err refusal ≡ unsigned_of (2 ^ 64) word → None
    ≡ block_count rules word
not_read rules word refusal read = sym (counted rules word ∙ ap (below (count_bound rules)) (sym read))
