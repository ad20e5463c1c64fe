-- The first bytes of buffers, one buffer after another.
use Rattle.std.proofs.Common.{◌≡◌, ℕ, zero, suc, add-one, ◌+◌, ◌-◌, ◌<◌, List, [], ◌∷◌, ◌++◌, length, take, drop, min}
use Rattle.std.proofs.Common.{get_or, refl, sym, ap, ◌∙◌, arith, append_assoc}
use Rattle.std.proofs.lemmas.List.{take_min}
use Rattle.std.proofs.Math.Seq.{drop-cons}
use Rattle.std.specs.Io.Slices.{io_slice_bytes, io_slices_bytes}
use Rattle.std.specs.declared.io.slices.IoSlice.{IoSlice}

-- what is taken of bytes and then of the rest
take_over : (left : ℕ) (bytes rest : List ℕ) → take left (bytes ++ rest) ≡ take left bytes
    ++ take (left - length (take left bytes)) rest
take_over zero bytes rest = refl
take_over (suc left) [] rest =
    let none : suc left - 0 ≡ suc left = omega arith in
    rw none refl
take_over (suc left) (b ∷ bytes) rest =
    let one_less : suc left - suc (length (take left bytes)) ≡ left - length (take left bytes) = omega arith in
    rw one_less (ap (λ xs. b ∷ xs) (take_over left bytes rest))

-- Where a buffer's part of the first bytes was added, those of the buffers behind it are left.
pub adds_next : (bufs : List IoSlice) (i left : ℕ) (old all bytes front : List ℕ) (d : IoSlice) → i < length bufs
    → bytes ≡ io_slice_bytes (get_or bufs i d) → front ≡ take (min left (length bytes)) bytes → old
    ++ take left (io_slices_bytes (drop i bufs)) ≡ all → (old ++ front)
    ++ take (left - length front) (io_slices_bytes (drop (i + 1) bufs)) ≡ all
adds_next bufs i left old all bytes front d within is front_is so_far =
    let rest = io_slices_bytes (drop (i + 1) bufs) in
    let next : io_slices_bytes (drop i bufs) ≡ bytes ++ rest =
    rw (add-one i) (ap io_slices_bytes (drop-cons bufs i d within)
    ∙ ap (λ xs. xs ++ io_slices_bytes (drop (suc i) bufs)) (sym is)) in
    let taken : front ≡ take left bytes = front_is ∙ take_min left bytes in
    append_assoc old front (take (left - length front) rest)
    ∙ ap (λ xs. old ++ xs) (rw taken (sym (take_over left bytes rest)) ∙ ap (take left) (sym next))
    ∙ so_far
