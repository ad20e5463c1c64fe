-- The bytes of buffers, one after another.
use Rattle.std.proofs.Common.{◌≡◌, ℕ, suc, add-one, ◌+◌, ◌<◌, List, ◌++◌, length, take, drop, get_or, sym, ap, ◌∙◌}
use Rattle.std.proofs.lemmas.List.{nil_from_length}
use Rattle.std.proofs.Math.Seq.{drop-cons, take-append_seam}
use Rattle.std.specs.Io.{StartsWith}
use Rattle.std.specs.Io.Slices.{io_slice_bytes, io_slices_bytes}
use Rattle.std.specs.declared.io.slices.IoSlice.{IoSlice}

-- from here on they are those of this buffer, and then the rest
next_bytes : (bufs : List IoSlice) (i : ℕ) (bytes : List ℕ) (d : IoSlice) → i < length bufs → io_slices_bytes bufs
    ≡ io_slices_bytes (drop i bufs) → bytes ≡ io_slice_bytes (get_or bufs i d) → io_slices_bytes bufs ≡ bytes
    ++ io_slices_bytes (drop (i + 1) bufs)
next_bytes bufs i bytes d within left is =
    rw (add-one i) (left ∙ (ap io_slices_bytes (drop-cons bufs i d within)
    ∙ ap (λ xs. xs ++ io_slices_bytes (drop (suc i) bufs)) (sym is)))

-- Where the buffers before this one are empty, the bytes of all begin with its own.
pub begins_with : (bufs : List IoSlice) (i : ℕ) (bytes : List ℕ) (d : IoSlice) → i < length bufs → io_slices_bytes bufs
    ≡ io_slices_bytes (drop i bufs) → bytes ≡ io_slice_bytes (get_or bufs i d) → StartsWith (io_slices_bytes bufs) bytes
begins_with bufs i bytes d within left is =
    ap (take (length bytes)) (next_bytes bufs i bytes d within left is)
    ∙ take-append_seam bytes (io_slices_bytes (drop (i + 1) bufs))

-- Where this buffer is empty like those before it, all bytes are those of the buffers behind it.
pub passes_empty : (bufs : List IoSlice) (i : ℕ) (bytes : List ℕ) (d : IoSlice) → i < length bufs → io_slices_bytes bufs
    ≡ io_slices_bytes (drop i bufs) → bytes ≡ io_slice_bytes (get_or bufs i d) → length bytes ≡ 0 → io_slices_bytes bufs
    ≡ io_slices_bytes (drop (i + 1) bufs)
passes_empty bufs i bytes d within left is none =
    next_bytes bufs i bytes d within left is
    ∙ ap (λ xs. xs ++ io_slices_bytes (drop (i + 1) bufs)) (nil_from_length bytes none)
