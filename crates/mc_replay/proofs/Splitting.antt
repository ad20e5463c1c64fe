-- The first part of a text, and the parts of the rest.
use Rattle.std.proofs.Common.{◌≡◌, ℕ, ◌+◌, ◌-◌, ◌<◌, ◌==◌, true, false, List, [], ◌∷◌, length, take, drop, arith, inl}
use Rattle.std.proofs.Common.{inr, nat_lt, length-drop, Some, None}
use Rattle.std.proofs.lemmas.Bool.{cases_lt}
use Rattle.std.proofs.lemmas.Bool.Decides.{nat_tests}
use Rattle.std.specs.List.{position_or_len, position}
use Rattle.std.proofs.lemmas.List.{take_all}
use Rattle.std.proofs.lemmas.List.Sums.{fails_before_first}
use Rattle.std.proofs.lemmas.List.Splits.{slice_split_first, slice_split_none}
use Rattle.mc_replay.specs.Text.{parts_of}

-- the parts by where the first separator is
pub parts_at : (separator : ℕ) (text : List ℕ) (at : ℕ) → Some at ≡ position (λ byte. byte == separator) text
    → parts_of separator text ≡ take at text ∷ parts_of separator (take (length text - (at + 1)) (drop (at + 1) text))
unfolding parts_of
parts_at separator text at h = elim (cases_lt (position_or_len (λ byte. byte == separator) text) (length text)) [
  | inl below ↦
      let test : nat_lt (position_or_len (λ byte. byte == separator) text) (length text) ≡ true =
      grind (arith, nat_tests) in
      let h' = rw test at h in
      let same : at ≡ position_or_len (λ byte. byte == separator) text = cc in
      let within : at < length text = rw same below in
      let whole = take_all (length text - (at + 1)) (drop (at + 1) text) (omega (arith, length-drop (at + 1) text)) in
      rw (whole, same) (slice_split_first (λ byte. byte == separator) text 0 below)
  | inr past ↦
      let test : nat_lt (position_or_len (λ byte. byte == separator) text) (length text) ≡ false =
      grind (arith, nat_tests) in
      let h' = rw test at h in
      absurd cc
]

-- A text without the separator has one part, all of it.
pub parts_nowhere : (separator : ℕ) (text : List ℕ) → None ≡ position (λ byte. byte == separator) text
    → parts_of separator text ≡ text ∷ []
unfolding parts_of
parts_nowhere separator text h = elim (cases_lt (position_or_len (λ byte. byte == separator) text) (length text)) [
  | inl below ↦
      let test : nat_lt (position_or_len (λ byte. byte == separator) text) (length text) ≡ true =
      grind (arith, nat_tests) in
      let h' = rw test at h in
      absurd cc
  | inr past ↦ slice_split_none (λ byte. byte == separator) text
      (λ k d below. fails_before_first (λ byte. byte == separator) text k d (omega arith))
]
