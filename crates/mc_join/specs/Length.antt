-- Saturating lengths of 64 bits.
use Rattle.std.specs.Prelude.{ℕ, ◌-◌, ◌^◌, min}

-- a number, or 2^64 - 1 if it is greater
abbrev pub capped : ℕ → ℕ
capped n = min n (2 ^ 64 - 1)
