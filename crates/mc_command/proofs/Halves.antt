-- What is left of a number in 32 bits.
use Rattle.std.proofs.Common.{◌≡◌, ◌≤◌, ◌-◌, ◌%◌, ℕ, suc, ℤ, pos, negsuc, refl, ap, ◌∙◌}
use Rattle.std.proofs.lemmas.Bool.{le-ltb}
use Rattle.std.proofs.lemmas.Int.{to_z-of_z}
use Rattle.std.specs.Int.{int_rem_euclid, int_wrap}
use mir.Syntax.{w32, w64}
use mir.Val.{SFits, of_z, to_z}

-- the remainder by 2^32 is a natural number, whose bits are those that are left
half_is : (z low : ℤ) → low ≡ int_rem_euclid z (pos 4294967296) → (bits : ℕ) × (low ≡ pos bits)
    × (int_wrap w32 z ≡ to_z w32 bits)
unfolding int_wrap
half_is (pos a) low is = (a % 4294967296, is, refl)
half_is (negsuc a) low is = (4294967296 - 1 - a % 4294967296, is, refl)

-- The remainder by 2^32 of a signed number of 64 bits is not negative, and its bits are the 32 that wrapping
-- keeps.
pub half_of : (z low : ℤ) → SFits w64 z → low ≡ int_rem_euclid (to_z w64 (of_z w64 z)) (pos 4294967296) → (bits : ℕ)
    × (low ≡ pos bits) × (int_wrap w32 z ≡ to_z w32 bits)
half_of z low fits is = half_is z low (is ∙ ap (λ (n : ℤ). int_rem_euclid n (pos 4294967296)) (to_z-of_z w64 z fits))

-- 32 bits of at least 2^31 denote that number less 2^32, which is negative.
pub high_bits : (bits : ℕ) → 2147483648 ≤ bits → to_z w32 bits ≡ negsuc (4294967296 - suc bits)
high_bits bits high = rw (le-ltb bits 2147483648 high) refl
