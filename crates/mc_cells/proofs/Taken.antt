-- The first cell of a chain less.
use Rattle.std.proofs.Common.{◌≡◌, ℕ, zero, suc, ◌+◌, ◌-◌, ◌<◌, cond, eqb, List}
use Rattle.std.proofs.Common.{◌++◌, refl, sym, arith, eq-eqb}
use Rattle.mc_cells.specs.declared.cell.Cell.{Cell}
use Rattle.mc_cells.specs.Pool.{IsAdded}
use Rattle.mc_cells.specs.Chain.{Slots, cell_at, next_in, bytes_in, passes, IsChain, chain_bytes}
use Rattle.mc_cells.specs.Kept.{KeptValue, used, all_passes, IsBeside}
use Rattle.mc_cells.proofs.Chains.{SameBut, chain_unchanged, kept_unchanged}
use Rattle.mc_cells.proofs.Added.{used_added}

-- the chain behind its first cell, once that is removed
pub chain_behind : (old new : Slots) (first : ℕ) (cell : Cell) (count : ℕ) → IsAdded new old first cell → 0 < count
    → IsChain old count first → IsChain new (count - 1) cell.next
chain_behind old new first cell zero taken some chain = absurd (omega (arith, some))
chain_behind old new first cell (suc count) taken some chain =
    let same : SameBut old new first = λ other apart. sym (taken.others other apart) in
    let here = rw taken.here at chain in
    let less : suc count - 1 ≡ count = omega arith in
    rw less ((chain_unchanged old new first count cell.next same here.1).chain here.2)

-- the other values, once the first cell of a chain is removed
pub beside_behind : (old new : Slots) (first : ℕ) (cell : Cell) (count : ℕ) (kept : List KeptValue)
    → IsAdded new old first cell → 0 < count → IsBeside old count first kept
    → IsBeside new (count - 1) cell.next kept
beside_behind old new first cell zero kept taken some beside = absurd (omega (arith, some))
beside_behind old new first cell (suc count) kept taken some beside =
    let same : SameBut old new first = λ other apart. sym (taken.others other apart) in
    let less : suc count - 1 ≡ count = omega arith in
    let next = cell.next in
    let chain = rw taken.here at beside.chain in
    let once : (number : ℕ)
    → (cond (eqb first number) 1 0 + passes old number count next) + all_passes old number kept
    ≡ used (cell_at old number)
    = λ number. rw taken.here at (beside.once number) in
    let alone : all_passes old first kept ≡ 0
    = omega (arith, rw (eq-eqb first first refl, taken.here) at (once first)) in
    let unchanged = chain_unchanged old new first count next same chain.1 in
    let others = kept_unchanged old new first kept same alone in
    rw less (record {
      chain = unchanged.chain chain.2;
      spelled = others.spelled beside.spelled;
      once = λ number. omega (
        arith,
        unchanged.passed number,
        others.passed number,
        once number,
        used_added new old first cell taken number,
      );
      counted = omega (arith, taken.counted, beside.counted);
    })

-- the bytes of a chain are those of its first cell, and those behind it
pub bytes_behind : (slots : Slots) (first count : ℕ) → 0 < count
    → chain_bytes slots count first
    ≡ bytes_in (cell_at slots first) ++ chain_bytes slots (count - 1) (next_in (cell_at slots first))
bytes_behind slots first zero some = absurd (omega (arith, some))
bytes_behind slots first (suc count) some =
    let less : suc count - 1 ≡ count = omega arith in
    rw less refl

-- the rest of a chain is one
pub rest_is_chain : (slots : Slots) (first count : ℕ) → 0 < count
    → IsChain slots count first → IsChain slots (count - 1) (next_in (cell_at slots first))
rest_is_chain slots first zero some chain = absurd (omega (arith, some))
rest_is_chain slots first (suc count) some chain =
    let less : suc count - 1 ≡ count = omega arith in
    rw less chain.2
