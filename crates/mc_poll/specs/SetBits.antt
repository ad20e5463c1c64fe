-- The set bits of a word.
use Rattle.std.specs.Prelude.{ℕ, ◌≡◌, ◌+◌, ◌-◌, ◌/◌, ◌^◌, ◌<◌, min, Option, Some, None}
use Rattle.std.specs.Int.{bit_at}
use Rattle.mc_poll.specs.declared.set_bits.SetBits.{SetBits}

-- The lowest number was returned, and those above it are left.
pub record IsLowest (old : SetBits) (number : ℕ) (new : SetBits) : Type 0 where
  -- its bit in the word
  pub place : ℕ
  pub number_is : number ≡ min (old.first + place) (2 ^ 64 - 1)
  pub marked : bit_at old.bits place ≡ 1
  pub lowest : (below : ℕ) → below < place → bit_at old.bits below ≡ 0
  pub rest : new.bits ≡ old.bits / 2 ^ (place + 1)
  pub first : new.first ≡ min (number + 1) (2 ^ 64 - 1)

-- nothing is returned if no bit is set
abbrev pub GivesLowest : SetBits → Option ℕ → SetBits → Type 0
GivesLowest old None new = old.bits ≡ 0
GivesLowest old (Some number) new = IsLowest old number new
