-- The lowest bit that is set.
use Rattle.std.proofs.Common.{ℕ, ◌≡◌, ◌∙◌, ◌+◌, ◌-◌, ◌/◌, ◌^◌, ◌<◌, min, ap, sym, arith}
use Rattle.std.specs.Int.{trailing_zeros, w64}
use Rattle.std.proofs.Math.Nat.{div-div-eq-div-mul}
use Rattle.std.proofs.lemmas.Nat.{pow-add}
use Rattle.std.proofs.lemmas.Nat.Bits.{bit_at-trailing_zeros}
use Rattle.mc_poll.specs.SetBits.{IsLowest}
use Rattle.mc_poll.specs.declared.set_bits.SetBits.{SetBits}

pub halved_again : (bits place : ℕ) → bits / 2 ^ place / 2 ≡ bits / 2 ^ (place + 1)
halved_again bits place = div-div-eq-div-mul bits (2 ^ place) 2 ∙ ap (λ n. bits / n) (sym (pow-add 2 place 1))

-- The number at `trailing_zeros` is the lowest that is marked.
pub is_lowest : (old new : SetBits) (number : ℕ) → (old.bits ≡ 0 → ⊥) → old.bits < 2 ^ 64 → number
    ≡ min (old.first + trailing_zeros w64 old.bits) (2 ^ 64 - 1)
    → new.bits ≡ old.bits / 2 ^ trailing_zeros w64 old.bits / 2 → new.first ≡ min (number + 1) (2 ^ 64 - 1)
    → IsLowest old number new
is_lowest old new number some fits is rest first =
    let found = bit_at-trailing_zeros w64 old.bits (omega (arith, some)) fits in
    record {
      place = trailing_zeros w64 old.bits;
      number_is = is;
      marked = found.1;
      lowest = found.2;
      rest = rest ∙ halved_again old.bits (trailing_zeros w64 old.bits);
      first = first;
    }
