-- The parity of the bytes' lowest bits.
use Rattle.std.specs.Prelude.{ℕ, ◌%◌, List, fold, bit_xor}

-- 1 if the lowest bit is set in an even number of the bytes, else 0
abbrev pub parity_of : List ℕ → ℕ
parity_of bytes = fold bit_xor 1 bytes % 2
