-- What decodes as base64 is bytes: each number that decoding gives is below 256.
use Rattle.std.proofs.Common.{◌≡◌, ◌⊎◌, length, ℕ, zero, suc, ◌+◌, ◌*◌, ◌<◌, Result, Option, List, [], ◌∷◌, ◌++◌}
use Rattle.std.proofs.Common.{slice_index, Some, None, Ok, Err, take, drop, refl, subst, sym, arith, inl, inr, ◌==◌}
use Rattle.std.proofs.lemmas.Bool.{cases_Bool}
use Rattle.std.proofs.lemmas.List.{take-append-drop, get_or-drop}
use Rattle.base64.specs.Engines.{standard}
use Rattle.base64.specs.GeneralPurpose.{IsBytes, decode_of}
use Rattle.base64.specs.Decode.{IsDecodeTable, or_else, symbol_error, group_error, group_bytes, groups_error}
use Rattle.base64.specs.Decode.{groups_bytes, groups_before_last, decode_group, decode_outcome, lone_error, no_leftover}
use Rattle.base64.specs.Decode.{leftover_bytes, push_leftover, scan, scan_steps, scan_last, scan_bytes, suffix_bytes}
use Rattle.base64.specs.declared.decode.DecodeError.{DecodeError}
use Rattle.base64.proofs.Decoding.{IsLeftover, IsLeftover_next}
use Rattle.base64.proofs.EngineFacts.{front_bytes}
use Rattle.base64.proofs.Tables.{IsDecodeTable_from, are_tables_inverse}

-- lists of bytes

append_octets : (a b : List ℕ) → IsBytes a → IsBytes b → IsBytes (a ++ b)
append_octets [] b first second i = second i
append_octets (x ∷ a) b first second zero = first 0
append_octets (x ∷ a) b first second (suc i) = append_octets a b (λ k. first (suc k)) second i

pub IsBytes-take : (n : ℕ) (bytes : List ℕ) → IsBytes bytes → IsBytes (take n bytes)
IsBytes-take n bytes octets =
    front_bytes (take n bytes) (drop n bytes) (subst IsBytes (sym (take-append-drop n bytes)) octets)

no_octets : IsBytes []
no_octets i = omega arith

group_octets : (a b c d : ℕ) → a < 64 → b < 64 → c < 64 → d < 64 → IsBytes (decode_group a b c d)
group_octets a b c d la lb lc ld zero = omega arith
group_octets a b c d la lb lc ld (suc zero) = omega arith
group_octets a b c d la lb lc ld (suc (suc zero)) = omega arith
group_octets a b c d la lb lc ld (suc (suc (suc i))) = omega arith

-- The groups of four symbols

no_error : (x y : Option DecodeError) → or_else x y ≡ None → (x ≡ None) × (y ≡ None)
no_error None y h = (refl, h)
no_error (Some e) y h = absurd cc

symbol_value : (dec s : List ℕ) (i : ℕ) → IsDecodeTable dec → IsBytes s → symbol_error dec s i ≡ None
    → slice_index dec (slice_index s i) < 64
symbol_value dec s i table octets h = elim (cases_Bool (slice_index dec (slice_index s i) == 255)) [
  | inl t ↦ absurd (let none = rw t at h in cc)
  | inr f ↦ elim (table (slice_index s i) (octets i))
      [ inl bad ↦ absurd (let not_bad = rw bad at f in cc) | inr good ↦ good ]
]

groups_octets : (dec s : List ℕ) (q : ℕ) → IsDecodeTable dec → IsBytes s → groups_error dec s q ≡ None
    → IsBytes (groups_bytes dec s q)
unfolding groups_error groups_bytes
groups_octets dec s zero table octets h = no_octets
groups_octets dec s (suc q) table octets h =
    let all = no_error (groups_error dec s q) (group_error dec s (4 * q)) h in
    let one = no_error (symbol_error dec s (4 * q)) _ all.1 in
    let two = no_error (symbol_error dec s (4 * q + 1)) _ one.1 in
    let three = no_error (symbol_error dec s (4 * q + 2)) (symbol_error dec s (4 * q + 3)) two.1 in
    let value : (i : ℕ) → symbol_error dec s i ≡ None → slice_index dec (slice_index s i) < 64 =
    λ i. symbol_value dec s i table octets in
    append_octets (groups_bytes dec s q) (group_bytes dec s (4 * q)) (groups_octets dec s q table octets all.0)
    (group_octets _ _ _ _ (value (4 * q) one.0) (value (4 * q + 1) two.0) (value (4 * q + 2) three.0)
    (value (4 * q + 3) three.1))

-- The last group

result_cases : {A E : Type 0} (r : Result A E) → ((x : A) × (r ≡ Ok x)) ⊎ ((e : E) × (r ≡ Err e))
result_cases (Ok x) = inl (x, refl)
result_cases (Err e) = inr (e, refl)

left_octets : (st : _) (i : ℕ) → IsLeftover st i → IsBytes (leftover_bytes st)
left_octets st i held = IsBytes-take _ _ (group_octets _ _ _ _ (held.3 0) (held.3 1) (held.3 2) (held.3 3))

scan_octets : (dec : List ℕ) (pad at i : ℕ) (st fin : _) (bs : List ℕ) → IsDecodeTable dec → IsBytes bs
    → IsLeftover st i →
    scan dec pad at st i bs ≡ Ok fin → IsBytes (leftover_bytes fin)
unfolding scan_steps
scan_octets dec pad at i st fin [] table octets held h = let same : st ≡ fin =
    cc h in rw (← same) (left_octets st i held)
scan_octets dec pad at i st fin (b ∷ bs) table octets held h = elim (result_cases (push_leftover dec pad at st i b)) [
  | inl ok ↦ scan_octets dec pad at (i + 1) ok.0 fin bs table (λ k. octets (suc k))
      (IsLeftover_next dec pad at st i b ok.0 table held (octets 0) ok.1) (rw (ok.1, scan_steps) at h)
  | inr err ↦ absurd (cc (rw (err.1, scan_steps) at h))
]

scanned_octets : (r : Result _ DecodeError) → ((fin : _) → r ≡ Ok fin → IsBytes (leftover_bytes fin))
    → IsBytes (scan_bytes r)
scanned_octets (Ok st) small = small st refl
scanned_octets (Err e) small = no_octets

none_held : IsLeftover no_leftover 0
none_held = (omega arith, omega arith, omega arith, zeros) where
  zeros : (k : ℕ) → slice_index (0 ∷ 0 ∷ 0 ∷ 0 ∷ []) k < 64
  zeros zero = omega arith
  zeros (suc zero) = omega arith
  zeros (suc (suc zero)) = omega arith
  zeros (suc (suc (suc zero))) = omega arith
  zeros (suc (suc (suc (suc k)))) = omega arith

drop_octets : (n : ℕ) (bytes : List ℕ) → IsBytes bytes → IsBytes (drop n bytes)
drop_octets n bytes octets k = rw (get_or-drop n bytes k 0) (octets (n + k))

suffix_octets : (dec s : List ℕ) (pad at : ℕ) → IsDecodeTable dec → IsBytes s → IsBytes (suffix_bytes dec pad at s)
suffix_octets dec s pad at table octets =
    scanned_octets (scan_last dec pad at s)
    (λ fin. scan_octets dec pad at 0 no_leftover fin (drop at s) table (drop_octets at s octets) none_held)

-- All of a text

outcome_ok : (x : Option DecodeError) (bytes b : List ℕ) → decode_outcome x bytes ≡ Ok b → (x ≡ None) × (bytes ≡ b)
outcome_ok None bytes b h = (refl, cc h)
outcome_ok (Some x) bytes b h = absurd (cc h)

-- Decoding a word of bytes gives bytes.
pub decoded_octets : (word bytes : List ℕ) → IsBytes word → decode_of standard word ≡ Ok bytes → IsBytes bytes
decoded_octets word bytes octets decoded =
    let dec = standard.decode_table in
    let q = groups_before_last (length word) in
    let table = IsDecodeTable_from standard.encode_table dec
    (are_tables_inverse standard.encode_table dec standard.padding.value standard.tables) in
    let parts = outcome_ok _ _ bytes decoded in
    let after = no_error (lone_error dec standard.padding.value word) _ parts.0 in
    let groups = no_error (groups_error dec word q) _ after.1 in
    subst IsBytes parts.1 (append_octets (groups_bytes dec word q)
    (suffix_bytes dec standard.padding.value (4 * q) word)
    (groups_octets dec word q table octets groups.0)
    (suffix_octets dec word standard.padding.value (4 * q) table octets))
