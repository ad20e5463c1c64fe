-- The cells in use are those that the chain of the vacant ones does not pass.
use Rattle.std.proofs.Common.{◌≡◌, ℕ, zero, suc, ◌+◌, ◌-◌, ◌<◌, cond, eqb, inl, inr, List, [], ◌∷◌, length, map, set}
use Rattle.std.proofs.Common.{Option, Some, None, is_some, IsSome, count_by, get_or, refl, sym, ap, ◌∙◌, arith}
use Rattle.std.proofs.Common.{ne_eqb, length-set, true≢false}
use Rattle.std.proofs.lemmas.Bool.{cases_eq}
use Rattle.std.proofs.lemmas.List.{get_or-set_same, get_or-set_other, get_or_past, get_or-map, set_comm, set-set}
use Rattle.std.proofs.lemmas.List.{map-set, length-map}
use Rattle.std.proofs.lemmas.List.Sums.{sum_by-cons, sum_by-set}
use Rattle.mc_cells.specs.declared.cell.Cell.{Cell}
use Rattle.mc_cells.specs.Chain.{Slots, cell_at, next_in, passes, IsChain}
use Rattle.mc_cells.specs.Pool.{IsAdded, vacate}
use Rattle.mc_cells.proofs.Chains.{first_apart, chain_unchanged}

-- a slot that is emptied has nothing
emptied : (slots : Slots) (at : ℕ) → cell_at (set slots at None) at ≡ None
emptied [] at = refl
emptied (slot ∷ slots) zero = refl
emptied (slot ∷ slots) (suc at) = emptied slots at

-- the chain does not pass a cell in use
in_use_apart : (all : Slots) (number count at : ℕ) → IsSome (cell_at (vacate all count at) number)
    → passes all number count at ≡ 0
in_use_apart all number zero at some = refl
in_use_apart all number (suc count) at some =
    let next = next_in (cell_at all at) in
    let rest = vacate all count next in
    elim (cases_eq at number) [
      | inl same ↦ absurd (true≢false (sym (rw (← same, emptied rest at) at some)))
      | inr apart ↦
          let there = rw (get_or-set_other rest at number None None (λ e. apart (sym e))) at some in
          let none : ◌≡◌ {A = ℕ} (cond (eqb at number) 1 0) 0 = rw (ne_eqb at number apart) refl in
          omega (arith, none, in_use_apart all number count next there)
    ]

-- a cell that the chain does not pass is in use, if it is any
apart_in_use : (all : Slots) (number count at : ℕ) → passes all number count at ≡ 0
    → cell_at (vacate all count at) number ≡ cell_at all number
apart_in_use all number zero at none = refl
apart_in_use all number (suc count) at none =
    let next = next_in (cell_at all at) in
    let apart = first_apart at number (passes all number count next) none in
    get_or-set_other (vacate all count next) at number None None (λ same. apart (sym same))
    ∙ apart_in_use all number count next (omega (arith, none))

-- the vector's length
pub vacate_length : (all : Slots) (count at : ℕ) → length (vacate all count at) ≡ length all
vacate_length all zero at = refl
vacate_length all (suc count) at =
    let next = next_in (cell_at all at) in
    length-set (vacate all count next) at None ∙ vacate_length all count next

-- a change of a cell that the chain does not pass
vacate_set : (all : Slots) (number count at : ℕ) (slot : Option Cell) → passes all number count at ≡ 0
    → vacate (set all number slot) count at ≡ set (vacate all count at) number slot
vacate_set all number zero at slot none = refl
vacate_set all number (suc count) at slot none =
    let next = next_in (cell_at all at) in
    let apart = first_apart at number (passes all number count next) none in
    let here : cell_at (set all number slot) at ≡ cell_at all at = get_or-set_other all number at slot None apart in
    rw (here, vacate_set all number count next slot (omega (arith, none)))
    (set_comm (vacate all count next) number at slot None (λ same. apart (sym same)))

-- a cell is in use or vacant
vacate_count : (all : Slots) (count at : ℕ) → IsChain all count at
    → count_by is_some (vacate all count at) + count ≡ count_by is_some all
vacate_count all zero at chain = omega arith
vacate_count all (suc count) at chain =
    let next = next_in (cell_at all at) in
    let rest = vacate all count next in
    let here : cell_at rest at ≡ cell_at all at = apart_in_use all at count next chain.1 in
    let some : IsSome (cell_at rest at) = rw here chain.0 in
    let one : ◌≡◌ {A = ℕ} (cond (is_some (cell_at rest at)) 1 0) 1 = rw some refl in
    let inside : at < length rest = grind (arith, get_or_past) in
    omega (
      arith,
      vacate_count all count next chain.2,
      sum_by-set (λ (slot : Option Cell). cond (is_some slot) 1 0) rest at None None inside,
      one,
    )

-- all cells of a vector
all_count : (cells : List Cell) → count_by is_some (map Some cells) ≡ length cells
all_count [] = refl
all_count (cell ∷ cells) =
    omega (
      arith,
      sum_by-cons (λ (slot : Option Cell). cond (is_some slot) 1 0) (Some cell) (map Some cells),
      all_count cells,
    )

-- how many cells of a vector are in use
pub pool_count : (cells : List Cell) (vacant free : ℕ) → IsChain (map Some cells) vacant free
    → count_by is_some (vacate (map Some cells) vacant free) + vacant ≡ length cells
pool_count cells vacant free chain = vacate_count (map Some cells) vacant free chain ∙ all_count cells

-- a cell that there is has a number within the vector
pub within : (slots : Slots) (number : ℕ) (cell : Cell) → cell_at slots number ≡ Some cell → number < length slots
within slots number cell here = grind (arith, get_or_past, here)

-- the vacant cells but the first, and what is in use then
pub record IsReused (all new : Slots) (vacant free count next : ℕ) (cell : Cell) : Type 0 where
  pub chain : IsChain new count next
  pub added : IsAdded (vacate all vacant free) (vacate new count next) free cell

-- The first vacant cell is put in use.
pub reused : (all : Slots) (vacant free : ℕ) (cell was : Cell) → 0 < vacant → IsChain all vacant free
    → cell_at all free ≡ Some was
    → IsReused all (set all free (Some cell)) vacant free (vacant - 1) was.next cell
reused all zero free cell was some chain here = absurd (omega (arith, some))
reused all (suc count) free cell was some chain here =
    let less : suc count - 1 ≡ count = omega arith in
    let behind = rw here at chain in
    let rest = vacate all count was.next in
    let new = set all free (Some cell) in
    let inside : free < length rest = omega (arith, within all free was here, vacate_length all count was.next) in
    let is = vacate_set all free count was.next (Some cell) behind.1 in
    let unchanged = chain_unchanged all new free count was.next
    (λ other apart. get_or-set_other all free other (Some cell) None apart) behind.1 in
    let full = sum_by-set (λ (slot : Option Cell). cond (is_some slot) 1 0) rest free (Some cell) None inside in
    let empty = sum_by-set (λ (slot : Option Cell). cond (is_some slot) 1 0) rest free None None inside in
    rw less (record {
      chain = unchanged.chain behind.2;
      added = rw (here, is) (record {
        vacant = emptied rest free;
        here = get_or-set_same rest free (Some cell) None inside;
        others = λ other apart. get_or-set_other rest free other (Some cell) None apart
            ∙ sym (get_or-set_other rest free other None None apart);
        counted = omega (arith, full, empty);
      });
    })

-- the chain of the vacant cells with one more, and what is in use then
pub record IsVacated (all new : Slots) (vacant free number : ℕ) (cell : Cell) : Type 0 where
  pub chain : IsChain new (vacant + 1) number
  pub removed : IsAdded (vacate new (vacant + 1) number) (vacate all vacant free) number cell

-- A cell in use is put before the vacant ones.
vacated : (all : Slots) (vacant free number : ℕ) (cell changed : Cell) → IsChain all vacant free
    → cell_at (vacate all vacant free) number ≡ Some cell → changed.next ≡ free
    → IsVacated all (set all number (Some changed)) vacant free number cell
vacated all vacant free number cell changed chain here links =
    let rest = vacate all vacant free in
    let new = set all number (Some changed) in
    let inside = within rest number cell here in
    let none : passes all number vacant free ≡ 0 = in_use_apart all number vacant free (rw here refl) in
    let is = vacate_set all number vacant free (Some changed) none in
    let unchanged = chain_unchanged all new number vacant free
    (λ other apart. get_or-set_other all number other (Some changed) None apart) none in
    let first : cell_at new number ≡ Some changed
    = get_or-set_same all number (Some changed) None (omega (arith, inside, vacate_length all vacant free)) in
    let next : next_in (cell_at new number) ≡ free = rw first links in
    let fewer = sum_by-set (λ (slot : Option Cell). cond (is_some slot) 1 0) rest number None None inside in
    let more : vacant + 1 ≡ suc vacant = omega arith in
    record {
      chain = rw (more, next) (rw first refl, unchanged.passed number ∙ none, unchanged.chain chain);
      removed = rw (more, next, is, set-set rest number (Some changed) None) (record {
        vacant = emptied rest number;
        here = here;
        others = λ other apart. sym (get_or-set_other rest number other None None apart);
        counted = omega (arith, rw here at fewer);
      });
    }

-- A cell of a vector that is in use is put before the vacant ones.
pub vacated_in : (cells : List Cell) (vacant free number : ℕ) (cell changed : Cell)
    → IsChain (map Some cells) vacant free → cell_at (vacate (map Some cells) vacant free) number ≡ Some cell
    → changed.next ≡ free
    → IsVacated (map Some cells) (map Some (set cells number changed)) vacant free number cell
vacated_in cells vacant free number cell changed chain here links =
    rw (map-set (λ (cell : Cell). Some cell) cells number changed)
    (vacated (map Some cells) vacant free number cell changed chain here links)

-- what a read of the vector gives
pub read_is : (cells : List Cell) (number : ℕ) (cell : Cell) → number < length cells → cell ≡ get_or cells number cell
    → cell_at (map Some cells) number ≡ Some cell
read_is cells number cell inside read =
    get_or-map (λ (cell : Cell). Some cell) cells number cell None inside ∙ ap (λ (cell : Cell). Some cell) (sym read)

-- a cell in use is within the vector
pub in_vector : (cells : List Cell) (vacant free number : ℕ)
    → IsSome (cell_at (vacate (map Some cells) vacant free) number) → number < length cells
in_vector cells vacant free number some =
    let slots = vacate (map Some cells) vacant free in
    let inside : number < length slots = grind (arith, get_or_past, some) in
    omega (arith, inside, vacate_length (map Some cells) vacant free, length-map cells (λ (cell : Cell). Some cell))

-- what a read of a cell in use gives
pub read_in_use : (cells : List Cell) (vacant free number : ℕ) (cell : Cell)
    → IsSome (cell_at (vacate (map Some cells) vacant free) number) → cell ≡ get_or cells number cell
    → cell_at (vacate (map Some cells) vacant free) number ≡ Some cell
read_in_use cells vacant free number cell some read =
    apart_in_use (map Some cells) number vacant free (in_use_apart (map Some cells) number vacant free some)
    ∙ read_is cells number cell (in_vector cells vacant free number some) read

-- the first vacant cell is within the vector
pub first_in_vector : (cells : List Cell) (vacant free : ℕ) → 0 < vacant → IsChain (map Some cells) vacant free
    → free < length cells
first_in_vector cells zero free some chain = absurd (omega (arith, some))
first_in_vector cells (suc count) free some chain =
    let inside : free < length (map (λ (cell : Cell). Some cell) cells) = grind (arith, get_or_past, chain.0) in
    omega (arith, inside, length-map cells (λ (cell : Cell). Some cell))

-- a cell in use is another one
pub record IsChanged (cells new : List Cell) (vacant free number : ℕ) (changed : Cell) : Type 0 where
  pub chain : IsChain (map Some new) vacant free
  pub slots : vacate (map Some new) vacant free ≡ set (vacate (map Some cells) vacant free) number (Some changed)

-- A cell of a vector that is in use is changed.
pub changed_in : (cells : List Cell) (vacant free number : ℕ) (changed : Cell) → IsChain (map Some cells) vacant free
    → IsSome (cell_at (vacate (map Some cells) vacant free) number)
    → IsChanged cells (set cells number changed) vacant free number changed
changed_in cells vacant free number changed chain some =
    let all = map (λ (cell : Cell). Some cell) cells in
    let none = in_use_apart all number vacant free some in
    let unchanged = chain_unchanged all (set all number (Some changed)) number vacant free
    (λ other apart. get_or-set_other all number other (Some changed) None apart) none in
    let is = map-set (λ (cell : Cell). Some cell) cells number changed in
    record {
      chain = rw is (unchanged.chain chain);
      slots = rw is (vacate_set all number vacant free (Some changed) none);
    }

-- how many cells of a vector are in use or vacant
pub vacate_map : (cells : List Cell) (vacant free : ℕ) → length (vacate (map Some cells) vacant free) ≡ length cells
vacate_map cells vacant free =
    vacate_length (map Some cells) vacant free ∙ length-map cells (λ (cell : Cell). Some cell)
