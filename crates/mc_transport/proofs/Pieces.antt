-- The pieces that one write offers are a beginning of what waits.
use Rattle.std.proofs.Common.{◌≡◌, ◌==◌, Bool, true, false, not, IsTrue, ℕ, zero, suc, ◌+◌, ◌-◌, ◌<◌, ◌≤◌, List, []}
use Rattle.std.proofs.Common.{◌∷◌, ◌++◌, length, length-append, take, drop, refl, sym, ap, ◌∙◌, arith, append_assoc}
use Rattle.std.proofs.Common.{append-nil, slice_get, Some, Result, Ok, Err, IfOk}
use Rattle.std.proofs.lemmas.Bool.{eqb-false, eqb-true}
use Rattle.std.proofs.lemmas.List.{drop_all, nil_from_length, take-append-le}
use Rattle.std.proofs.Math.Seq.{drop-append-add}
use Rattle.std.specs.List.{flat_map}
use Rattle.std.specs.Io.Slices.{io_slice_bytes, io_slices_bytes}
use Rattle.std.specs.declared.io.slices.IoSlice.{IoSlice}
use Rattle.mc_wire.specs.Sink.{Sight, took}
use Rattle.mc_transport.specs.declared.write_buffer.Chunk.{Chunk}
use Rattle.mc_transport.specs.Chunks.{bytes_of}
use Rattle.mc_transport.specs.Later.{piece_behind}

-- At the place of a chunk, the bytes of that chunk wait.
pub piece_chunk : (chunks : List Chunk) (tail : List ℕ) (place : ℕ) (chunk : Chunk) → slice_get chunks place
    ≡ Some chunk → piece_behind chunks tail place ≡ bytes_of chunk
piece_chunk [] tail place chunk found = absurd cc
piece_chunk (first ∷ chunks) tail zero chunk found = let same : first ≡ chunk = cc in ap bytes_of same
piece_chunk (first ∷ chunks) tail (suc place) chunk found = piece_chunk chunks tail place chunk found

-- Right behind the last chunk, the tail waits.
pub piece_tail : (chunks : List Chunk) (tail : List ℕ) → piece_behind chunks tail (length chunks) ≡ tail
piece_tail [] tail = refl
piece_tail (first ∷ chunks) tail = piece_tail chunks tail

-- Behind the tail, nothing waits.
pub piece_past : (chunks : List Chunk) (tail : List ℕ) (place : ℕ) → length chunks < place
    → piece_behind chunks tail place ≡ []
piece_past [] tail zero past = absurd (omega (arith, past))
piece_past [] tail (suc place) past = refl
piece_past (first ∷ chunks) tail zero past = absurd (omega (arith, past))
piece_past (first ∷ chunks) tail (suc place) past = piece_past chunks tail place (omega (arith, past))

-- What was offered is the beginning of all.
pub record Begins (all offered : List ℕ) : Type 0 where
  pub rest : List ℕ
  pub all_is : offered ++ rest ≡ all

four : (a b c d rest : List ℕ) → (a ++ (b ++ (c ++ (d ++ [])))) ++ rest ≡ a ++ (b ++ (c ++ (d ++ rest)))
four a b c d rest =
    append_assoc a (b ++ (c ++ (d ++ []))) rest
    ∙ ap (λ xs. a ++ xs) (append_assoc b (c ++ (d ++ [])) rest
    ∙ ap (λ xs. b ++ xs) (append_assoc c (d ++ []) rest
    ∙ ap (λ xs. c ++ xs) (append_assoc d [] rest)))

abbrev pub offered_front : List ℕ → List Chunk → List ℕ → List ℕ
offered_front front chunks tail =
    front ++ (piece_behind chunks tail 0 ++ (piece_behind chunks tail 1 ++ (piece_behind chunks tail 2 ++ [])))

begins : (front : List ℕ) (chunks : List Chunk) (tail : List ℕ)
    → Begins (front ++ (flat_map bytes_of chunks ++ tail)) (offered_front front chunks tail)
begins front [] tail = record {
  rest = [];
  all_is = four front tail [] [] [] ∙ ap (λ xs. front ++ xs) (append-nil tail);
}
begins front (a ∷ []) tail = record {
  rest = [];
  all_is =
      four front (bytes_of a) tail [] []
      ∙ ap (λ xs. front ++ xs)
      (ap (λ xs. bytes_of a ++ xs) (append-nil tail) ∙ ap (λ xs. xs ++ tail) (sym (append-nil (bytes_of a))));
}
begins front (a ∷ b ∷ []) tail = record {
  rest = [];
  all_is = four front (bytes_of a) (bytes_of b) tail [] ∙ ap (λ xs. front ++ xs) (
      ap (λ xs. bytes_of a ++ (bytes_of b ++ xs)) (append-nil tail)
      ∙ (sym (append_assoc (bytes_of a) (bytes_of b) tail)
      ∙ ap (λ xs. (bytes_of a ++ xs) ++ tail) (sym (append-nil (bytes_of b)))));
}
begins front (a ∷ b ∷ c ∷ chunks) tail =
    let later = flat_map bytes_of chunks in
    record {
      rest = later ++ tail;
      all_is = four front (bytes_of a) (bytes_of b) (bytes_of c) (later ++ tail) ∙ ap (λ xs. front ++ xs) (sym (
          append_assoc (bytes_of a) (bytes_of b ++ (bytes_of c ++ later)) tail
          ∙ ap (λ xs. bytes_of a ++ xs) (append_assoc (bytes_of b) (bytes_of c ++ later) tail
          ∙ ap (λ xs. bytes_of b ++ xs) (append_assoc (bytes_of c) later tail))));
    }

-- The first count bytes of what was offered are the first of all.
pub record AreFirst (all offered : List ℕ) (count : ℕ) : Type 0 where
  pub within : count ≤ length all
  pub same : take count offered ≡ take count all

first_of : (all offered : List ℕ) (count : ℕ) → Begins all offered → count ≤ length offered → AreFirst all offered count
first_of all offered count begin within = record {
  within = rw (← begin.all_is) (omega (arith, within, length-append offered begin.rest));
  same = sym (take-append-le count offered begin.rest within) ∙ ap (take count) begin.all_is;
}

-- What the buffers of one write have is a beginning of what waits.
pub begins_offered : (front : List ℕ) (chunks : List Chunk) (tail : List ℕ) (one two three four : IoSlice)
    → io_slice_bytes one ≡ front → io_slice_bytes two ≡ piece_behind chunks tail 0 → io_slice_bytes three
    ≡ piece_behind chunks tail 1 → io_slice_bytes four ≡ piece_behind chunks tail 2
    → Begins (front ++ (flat_map bytes_of chunks ++ tail)) (io_slices_bytes (one ∷ two ∷ three ∷ four ∷ []))
begins_offered front chunks tail one two three four is_one is_two is_three is_four =
    let offered : io_slices_bytes (one ∷ two ∷ three ∷ four ∷ []) ≡ offered_front front chunks tail = cc in
    rw offered (begins front chunks tail)

-- the first bytes of the buffers that one write offers
pub first_offered : (front : List ℕ) (chunks : List Chunk) (tail : List ℕ) (one two three four : IoSlice)
    → io_slice_bytes one ≡ front → io_slice_bytes two ≡ piece_behind chunks tail 0 → io_slice_bytes three
    ≡ piece_behind chunks tail 1 → io_slice_bytes four ≡ piece_behind chunks tail 2 → (count : ℕ)
    → count ≤ length (io_slices_bytes (one ∷ two ∷ three ∷ four ∷ []))
    → AreFirst (front ++ (flat_map bytes_of chunks ++ tail)) (io_slices_bytes (one ∷ two ∷ three ∷ four ∷ [])) count
first_offered front chunks tail one two three four is_one is_two is_three is_four count within =
    first_of (front ++ (flat_map bytes_of chunks ++ tail)) (io_slices_bytes (one ∷ two ∷ three ∷ four ∷ [])) count
    (begins_offered front chunks tail one two three four is_one is_two is_three is_four) within

-- A write that takes no more than it is offered takes no more than waits in all.
pub offer_within : {E : Type 0} (result : Result ℕ E) (all offered : List ℕ)
    → ((count : ℕ) → count ≤ length offered → AreFirst all offered count)
    → IfOk result (λ count. count ≤ length offered) → IfOk result (λ count. count ≤ length all)
offer_within (Ok count) all offered first within = (first count within).within
offer_within (Err fault) all offered first within = within

-- A write that takes a beginning of what it is offered takes that beginning of all that waits.
pub offer_ok : {E : Type 0} (result : Result ℕ E) (all offered : List ℕ) (old new : Sight)
    → ((count : ℕ) → count ≤ length offered → AreFirst all offered count)
    → IfOk result (λ count. count ≤ length offered) → IfOk result (λ count. new ≡ took (take count offered) old)
    → IfOk result (λ count. new ≡ took (take count all) old)
offer_ok (Ok count) all offered old new first within wrote =
    wrote ∙ ap (λ bytes. took bytes old) (first count within).same
offer_ok (Err fault) all offered old new first within wrote = wrote

-- what is left to pass once the rest of the front was passed
pub record PassesOn (front after : List ℕ) (count left : ℕ) : Type 0 where
  pub within : left ≤ length after
  pub same : drop left after ≡ drop count (front ++ after)

-- To pass more bytes than the front has is to pass the rest of them in what is behind the front.
pub passes_on : (front after : List ℕ) (count : ℕ) → length front < count → count ≤ length (front ++ after)
    → PassesOn front after count (count - length front)
passes_on front after count more within =
    let left = count - length front in
    let count_is : length front + left ≡ count = omega (arith, more) in
    record {
      within = omega (arith, more, within, length-append front after);
      same = sym (drop-append-add front after left) ∙ ap (λ n. drop n (front ++ after)) count_is;
    }

-- Where what is left of the front isn't empty, something waits.
pub some_waits : (rest offered behind : List ℕ) → offered ≡ rest → false ≡ (length offered == 0)
    → 0 < length (rest ++ behind)
some_waits rest offered behind same some =
    let apart = eqb-false (length offered) 0 (sym some) in
    omega (arith, apart, ap length same, length-append rest behind)

-- A test that holds shows that nothing is left of the front.
pub is_passed : (rest offered : List ℕ) (empty : Bool) → offered ≡ rest → empty ≡ (length offered == 0) → IsTrue empty
    → rest ≡ []
is_passed rest offered true same is holds =
    sym same ∙ nil_from_length offered (eqb-true (length offered) 0 (sym is))
is_passed rest offered false same is holds = absurd cc

-- Where nothing waits before the tail, only the tail waits.
pub tail_waits : (rest : List ℕ) (chunks : List Chunk) (tail : List ℕ) → rest ≡ [] → chunks ≡ []
    → rest ++ (flat_map bytes_of chunks ++ tail) ≡ tail
tail_waits rest chunks tail none empty = rw (none, empty) refl

-- Where all of the tail was written, nothing is left of what waited.
pub tail_passed : (rest : List ℕ) (chunks : List Chunk) (tail after : List ℕ) (count : ℕ) → rest ≡ [] → chunks ≡ []
    → after ≡ [] → length tail ≤ count
    → rest ++ (flat_map bytes_of chunks ++ after) ≡ drop count (rest ++ (flat_map bytes_of chunks ++ tail))
tail_passed rest chunks tail after count none empty cleared all =
    tail_waits rest chunks after none empty
    ∙ (cleared ∙ (sym (drop_all count tail all) ∙ ap (drop count) (sym (tail_waits rest chunks tail none empty))))

-- Where the tail isn't empty, something waits.
pub some_tail : (rest : List ℕ) (chunks : List Chunk) (tail : List ℕ) (len : ℕ) → len ≡ length tail
    → false ≡ (len == 0) → 0 < length (rest ++ (flat_map bytes_of chunks ++ tail))
some_tail rest chunks tail len is some =
    let apart = eqb-false len 0 (sym some) in
    let later = flat_map bytes_of chunks in
    omega (arith, apart, is, length-append rest (later ++ tail), length-append later tail)

-- A test that fails is false.
pub not_empty : (empty count : Bool) → empty ≡ count → IsTrue (not empty) → false ≡ count
not_empty true count is fails = absurd cc
not_empty false count is fails = is
