-- Bytes that are read eight at a time, as integers.
use Rattle.std.specs.Prelude.{◌≡◌, ℕ, ◌<◌, List, length, get_or}
use Rattle.std.specs.Int.{w64, from_le_bytes}

-- eight bytes, and the integer that they are read as
pub record IsWord (bytes : List ℕ) (number : ℕ) : Type 0 where
  pub len : length bytes ≡ 8
  pub small : (i : ℕ) → get_or bytes i 0 < 256
  pub read : number ≡ from_le_bytes w64 bytes
