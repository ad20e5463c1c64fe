-- Where the first line of some bytes ends, as it is found piece by piece.
use Rattle.std.proofs.Common.{◌≡◌, ℕ, zero, suc, ◌+◌, ◌<◌, false, List, [], ◌∷◌, ◌++◌, length, take, drop, slice_index}
use Rattle.std.proofs.Common.{◌==◌, sym, ap, ◌∙◌, arith, append_assoc, length-append, length-take, Option, Some, None}
use Rattle.std.proofs.lemmas.Bool.{false_from_ne_true}
use Rattle.std.proofs.lemmas.Bool.Decides.{nat_tests}
use Rattle.std.proofs.Math.Seq.{drop-append-add, take-append_seam}
use Rattle.memchr.specs.Find.{IsFirstByte, is_byte}
use Rattle.mc_reader.specs.Spelling.{HasNoEnd}
use Rattle.mc_reader.specs.internal.State.{EndsAt, IsFirstLine}

-- no byte before the first end of a line is one
no_end_before : (bytes : List ℕ) (end : ℕ) → ((k : ℕ) → k < end → (slice_index bytes k == 10) ≡ false)
    → HasNoEnd (take end bytes)
no_end_before bytes zero before = tt
no_end_before [] (suc end) before = tt
no_end_before (x ∷ xs) (suc end) before =
    (before 0 (omega arith), no_end_before xs end (λ k below. before (suc k) (omega arith)))

-- bytes by their first line
split_line : (bytes : List ℕ) (end : ℕ) → end < length bytes → slice_index bytes end ≡ 10 → bytes ≡ take end bytes
    ++ 10 ∷ drop (suc end) bytes
split_line [] end below is = absurd (omega arith)
split_line (x ∷ xs) zero below is = rw is
split_line (x ∷ xs) (suc end) below is = ap (λ ys. x ∷ ys) (split_line xs end (omega arith) is)

nowhere : (bytes : List ℕ) → ((k : ℕ) → k < length bytes → (slice_index bytes k == 10) ≡ false) → HasNoEnd bytes
nowhere [] h = tt
nowhere (y ∷ ys) h = (h 0 (omega arith), nowhere ys (λ k below. h (suc k) (omega arith)))

-- what a search finds
pub ends_found : (bytes : List ℕ) (found : Option ℕ) → IsFirstByte (is_byte 10) bytes found → EndsAt bytes found
ends_found bytes None h =
    nowhere bytes (λ k below. false_from_ne_true (slice_index bytes k == 10) (h k (omega arith) below))
ends_found bytes (Some end) h =
    let below = h.0.high in
    let ten : slice_index bytes end ≡ 10 = (let test = h.1 in grind (arith, nat_tests)) in
    record {
      line = take end bytes;
      rest = drop (suc end) bytes;
      bytes_are = split_line bytes end below ten;
      no_end =
          no_end_before bytes end (λ k less. false_from_ne_true (slice_index bytes k == 10)
          (h.0.before k (omega arith) less));
      long_is = omega (arith, length-take end bytes);
    }

-- Bytes without a line feed, behind others without one, are together without one.
pub no_end_append : (a b : List ℕ) → HasNoEnd a → HasNoEnd b → HasNoEnd (a ++ b)
no_end_append [] b p q = q
no_end_append (x ∷ xs) b p q = (p.0, no_end_append xs b p.1 q)

-- what is found in a piece behind bytes without an end
pub ends_behind : (bytes more : List ℕ) (long : ℕ) → HasNoEnd bytes → IsFirstLine more long
    → IsFirstLine (bytes ++ more) (length bytes + long)
ends_behind bytes more long none first = record {
  line = bytes ++ first.line;
  rest = first.rest;
  bytes_are = ap (λ xs. bytes ++ xs) first.bytes_are ∙ sym (append_assoc bytes first.line (10 ∷ first.rest));
  no_end = no_end_append bytes first.line none first.no_end;
  long_is = length-append bytes first.line ∙ ap (λ n. length bytes + n) first.long_is;
}

-- the bytes by their first line, cut at its end
pub record AtLine (bytes : List ℕ) (long : ℕ) : Type 0 where
  pub bytes_are : bytes ≡ take long bytes ++ 10 ∷ drop (long + 1) bytes
  pub no_end : HasNoEnd (take long bytes)
  pub long_is : length (take long bytes) ≡ long

at_line_of : (bytes : List ℕ) (long : ℕ) (line rest : List ℕ) → bytes ≡ line ++ 10 ∷ rest → HasNoEnd line → length line
    ≡ long → AtLine bytes long
at_line_of bytes long line rest is none long_is =
    let front : take long bytes ≡ line = rw (is, ← long_is) (take-append_seam line (10 ∷ rest)) in
    let back : drop (long + 1) bytes ≡ rest = rw (is, ← long_is) (drop-append-add line (10 ∷ rest) 1) in
    record { bytes_are = rw (front, back) is; no_end = rw front none; long_is = rw front long_is }

-- Bytes whose first line ends are that line, its line feed and what comes behind it, cut at its length.
pub at_line : (bytes : List ℕ) (long : ℕ) → IsFirstLine bytes long → AtLine bytes long
at_line bytes long first = at_line_of bytes long first.line first.rest first.bytes_are first.no_end first.long_is

-- A first line that ends is shorter than the bytes that contain it.
pub line_in : (bytes : List ℕ) (long : ℕ) → IsFirstLine bytes long → long < length bytes
line_in bytes long first = let e =
    first.long_is in omega (arith, ap length first.bytes_are, length-append first.line (10 ∷ first.rest))
