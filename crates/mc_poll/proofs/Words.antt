-- Numbers in words of 64.
use Rattle.std.proofs.Common.{ℕ, ◌*◌, ◌≤◌, arith}
use Rattle.std.specs.Int.{div_ceil}

-- All words of the numbers are before a word that begins past them.
pub words_within : (numbers word : ℕ) → numbers ≤ 64 * word → div_ceil numbers 64 ≤ word
words_within numbers word past = omega (arith, past)
