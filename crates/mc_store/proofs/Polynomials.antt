-- What making a product smaller keeps of it.
use Rattle.std.proofs.Common.{◌≡◌, ℕ, ◌+◌, ◌*◌, ◌^◌, ◌<◌, List, get_or, take, drop, arith, ap, sym, ◌∙◌}
use Rattle.std.specs.Prelude.{slice_index}
use Rattle.std.specs.Int.{w64, from_le_bytes}
use Rattle.std.proofs.lemmas.List.{get_or-take, get_or-drop}
use Rattle.mc_store.specs.internal.Polynomial.{read_u32, read_u64}

read_as_two : (a b c d e f g h : ℕ)
    → a + b * 256 ^ 1 + c * 256 ^ 2 + d * 256 ^ 3 + e * 256 ^ 4 + f * 256 ^ 5 + g * 256 ^ 6 + h * 256 ^ 7
    ≡ (a + b * 256 + c * 65536 + d * 16777216) + (e + f * 256 + g * 65536 + h * 16777216) * 2 ^ 32
read_as_two a b c d e f g h = omega arith

-- Eight bytes that were cut out, read as one number, are the eight bytes from that place on.
pub eight_bytes : (bytes chunk : List ℕ) (at : ℕ) → chunk ≡ take 8 (drop at bytes) → from_le_bytes w64 chunk
    ≡ read_u64 bytes at
unfolding read_u64 read_u32
eight_bytes bytes chunk at is =
    let byte : (k place : ℕ) → k < 8 → place ≡ at + k → slice_index chunk k ≡ slice_index bytes place =
    λ k place lt there. ap (λ xs. get_or xs k 0) is
    ∙ (get_or-take 8 (drop at bytes) k 0 lt ∙ (get_or-drop at bytes k 0 ∙ ap (slice_index bytes) (sym there))) in
    rw (
      byte 0 at (omega arith) (omega arith),
      byte 1 (at + 1) (omega arith) (omega arith),
      byte 2 (at + 2) (omega arith) (omega arith),
      byte 3 (at + 3) (omega arith) (omega arith),
      byte 4 (at + 4) (omega arith) (omega arith),
      byte 5 (at + 4 + 1) (omega arith) (omega arith),
      byte 6 (at + 4 + 2) (omega arith) (omega arith),
      byte 7 (at + 4 + 3) (omega arith) (omega arith),
    ) (read_as_two _ _ _ _ _ _ _ _)
