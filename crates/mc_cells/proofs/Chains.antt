-- Chains that do not pass a changed cell are as before.
use Rattle.std.proofs.Common.{◌≡◌, ◌≢◌, ℕ, zero, suc, ◌+◌, ◌<◌, ◌≤◌, cond, eqb, List, [], ◌∷◌}
use Rattle.std.proofs.Common.{◌++◌, refl, ap, ◌∙◌, arith, eq-eqb}
use Rattle.std.specs.List.{AllByRecursion}
use Rattle.std.proofs.lemmas.Bool.{lt-ltb}
use Rattle.std.proofs.lemmas.List.Sums.{sum_by-cons}
use Rattle.mc_cells.specs.declared.TheConstants.{LONG_VALUE}
use Rattle.mc_cells.specs.Chain.{Slots, cell_at, next_in, bytes_in, pieces, passes, IsChain, chain_bytes}
use Rattle.mc_cells.specs.Kept.{KeptValue, cells_of, IsSpelled, all_passes}

-- a short value takes as many cells as it has pieces
pub short_cells : (len : ℕ) → len < LONG_VALUE → cells_of len ≡ pieces len
short_cells len short = rw (lt-ltb len LONG_VALUE short) refl

-- a whole piece more takes a cell more
pub piece_more : (len : ℕ) → pieces (len + 50) ≡ suc (pieces len)
piece_more len = omega arith

-- one piece takes one cell
pub piece_alone : (len : ℕ) → 0 < len → len ≤ 50 → pieces len ≡ 1
piece_alone len some one = omega (arith, some, one)

-- each number but one has the same cell in both
abbrev pub SameBut : Slots → Slots → ℕ → Type 0
SameBut old new number = (other : ℕ) → other ≢ number → cell_at new other ≡ cell_at old other

pub record IsUnchanged (old new : Slots) (count at : ℕ) : Type 0 where
  pub passed : (number : ℕ) → passes new number count at ≡ passes old number count at
  pub bytes : chain_bytes new count at ≡ chain_bytes old count at
  pub chain : IsChain old count at → IsChain new count at

-- the first cell of a chain that does not pass a number is another one
pub first_apart : (at number rest : ℕ) → cond (eqb at number) 1 0 + rest ≡ 0 → at ≢ number
first_apart at number rest none same = omega (arith, rw (eq-eqb at number same) at none)

-- a chain that does not pass the changed cell
pub chain_unchanged : (old new : Slots) (number count at : ℕ) → SameBut old new number → passes old number count at ≡ 0
    → IsUnchanged old new count at
chain_unchanged old new number zero at same none = record { passed = λ n. refl; bytes = refl; chain = λ h. h }
chain_unchanged old new number (suc count) at same none =
    let next = next_in (cell_at old at) in
    let here : cell_at new at ≡ cell_at old at = same at (first_apart at number (passes old number count next) none) in
    let rest = chain_unchanged old new number count next same (omega (arith, none)) in
    record {
      passed = λ n. rw here (ap (λ x. cond (eqb at n) 1 0 + x) (rest.passed n));
      bytes = rw here (ap (λ xs. bytes_in (cell_at old at) ++ xs) rest.bytes);
      chain = λ chain. rw here (chain.0, rest.passed at ∙ chain.1, rest.chain chain.2);
    }

-- how often one chain and the others pass a cell
pub all_passes-cons : (slots : Slots) (number : ℕ) (value : KeptValue) (kept : List KeptValue)
    → all_passes slots number (value ∷ kept)
    ≡ passes slots number (cells_of value.0.len) value.0.first + all_passes slots number kept
all_passes-cons slots number value kept =
    sum_by-cons (λ (value : KeptValue). passes slots number (cells_of value.0.len) value.0.first) value kept

pub record AreUnchanged (old new : Slots) (kept : List KeptValue) : Type 0 where
  pub passed : (number : ℕ) → all_passes new number kept ≡ all_passes old number kept
  pub spelled : AllByRecursion (IsSpelled old) kept → AllByRecursion (IsSpelled new) kept

pub spelled_unchanged : (old new : Slots) (value : KeptValue) → IsUnchanged old new (cells_of value.0.len) value.0.first
    → IsSpelled old value → IsSpelled new value
spelled_unchanged old new value same spelled =
    record {
      len = spelled.len;
      chain = same.chain spelled.chain;
      bytes = λ short. rw same.bytes (spelled.bytes short);
    }

-- values none of whose chains passes the changed cell
pub kept_unchanged : (old new : Slots) (number : ℕ) (kept : List KeptValue) → SameBut old new number
    → all_passes old number kept ≡ 0 → AreUnchanged old new kept
kept_unchanged old new number [] same none = record { passed = λ n. refl; spelled = λ h. h }
kept_unchanged old new number (value ∷ kept) same none =
    let count = cells_of value.0.len in
    let split = all_passes-cons old number value kept in
    let first = chain_unchanged old new number count value.0.first same (omega (arith, split, none)) in
    let rest = kept_unchanged old new number kept same (omega (arith, split, none)) in
    record {
      passed = λ n. omega (
        arith,
        all_passes-cons old n value kept,
        all_passes-cons new n value kept,
        first.passed n,
        rest.passed n,
      );
      spelled = λ h. (spelled_unchanged old new value first h.0, rest.spelled h.1);
    }
