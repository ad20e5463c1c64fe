-- The place of a key among two shards is a parity: the hash's basis and prime are odd, so its lowest bit is
-- that of the basis and of each byte, mixed by exclusive or.
use Rattle.std.proofs.Common.{◌≡◌, ℕ, ◌*◌, ◌%◌, ◌^◌, List, [], ◌∷◌, refl, sym, ap, ◌∙◌, arith}
use Rattle.std.specs.Prelude.{fold, bit_xor}
use Rattle.std.proofs.lemmas.Nat.{xor_mod}
use Rattle.mc_wire.specs.Key.{fnv_step, fnv_of, place_of}
use Rattle.mc_wire.specs.internal.Parity.{parity_of}

-- an odd factor leaves the lowest bit
odd_product : (n : ℕ) → (n * 16777619 % 2 ^ 32) % 2 ≡ n % 2
odd_product n = omega arith

step_parity : (hash parity byte : ℕ) → hash % 2 ≡ parity % 2 → fnv_step hash byte % 2 ≡ bit_xor parity byte % 2
step_parity hash parity byte same =
    odd_product (bit_xor hash byte)
    ∙ (xor_mod hash byte 1 ∙ (ap (λ low. bit_xor low (byte % 2)) same ∙ sym (xor_mod parity byte 1)))

fold_parity : (bytes : List ℕ) (hash parity : ℕ) → hash % 2 ≡ parity % 2 → fold fnv_step hash bytes % 2
    ≡ fold bit_xor parity bytes % 2
fold_parity [] hash parity same = same
fold_parity (byte ∷ bytes) hash parity same =
    fold_parity bytes (fnv_step hash byte) (bit_xor parity byte) (step_parity hash parity byte same)

-- The shard of a key among two is determined by the lowest bits of its bytes: shard 1 if an even number of
-- them are set, else 0.
pub place_of_two : (key : List ℕ) → parity_of key ≡ place_of key 2
unfolding fnv_of
place_of_two key = sym (fold_parity key 2166136261 1 refl)
