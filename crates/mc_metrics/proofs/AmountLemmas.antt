-- A share of a whole, in percent.
use Rattle.std.proofs.Common.{ℕ, ◌≤◌, ◌*◌, ◌/◌, arith}
use Rattle.std.proofs.Math.Nat.{div-le_of_le-mul}

-- a part is at most all of a hundred percent
pub a_share : (part all : ℕ) → part ≤ all → part * 100 / all ≤ 100
a_share part all within = div-le_of_le-mul all (omega (arith, within))
