-- Worked rows: how many cells a value takes, which cells are in use beside a chain of vacant ones, and which pieces
-- are in them.
use Rattle.std.proofs.Common.{◌≡◌, [], ◌∷◌, ◌++◌, replicate, map, Some, None, refl, sym, arith, true≢false}
use Rattle.mc_cells.specs.Chain.{Slots, cell_of, IsChain}
use Rattle.mc_cells.specs.Kept.{cells_of, slots_of}
use Rattle.mc_cells.specs.Pool.{vacate}
use Rattle.mc_cells.specs.Halves.{half_beside, half_of, pieces_in}
use Rattle.mc_cells.specs.declared.TheConstants.{SPLIT}

-- a cell for every 60 bytes, and one for the rest
cells_of_short : map cells_of (0 ∷ 1 ∷ 59 ∷ 60 ∷ 61 ∷ 120 ∷ 121 ∷ []) ≡ 0 ∷ 1 ∷ 1 ∷ 1 ∷ 2 ∷ 2 ∷ 3 ∷ []
cells_of_short = refl

-- the longest value in cells, and the shortest without
cells_of_long : map cells_of (8191 ∷ 8192 ∷ []) ≡ 137 ∷ 0 ∷ []
cells_of_long = refl

slots_of_long : map slots_of (8191 ∷ 8192 ∷ []) ≡ 0 ∷ 1 ∷ []
slots_of_long = refl

-- the first half and the second of a cell's bytes
two_halves : map (λ number. half_of number (replicate 30 7 ++ 8 ∷ 9 ∷ [])) (0 ∷ 1 ∷ 2 ∷ 3 ∷ [])
    ≡ replicate 30 7 ∷ (8 ∷ 9 ∷ []) ∷ replicate 30 7 ∷ (8 ∷ 9 ∷ []) ∷ []
two_halves = refl

halves_beside : map half_beside (0 ∷ 1 ∷ 2 ∷ 3 ∷ []) ≡ 1 ∷ 0 ∷ 3 ∷ 2 ∷ []
halves_beside = refl

-- a whole cell before piece 5, a split one whose link is place 0 among the vacant halves, and a vacant cell
abbrev one_split : Slots
one_split = Some (cell_of 5 (6 ∷ [])) ∷ Some (cell_of SPLIT (7 ∷ [])) ∷ None ∷ []

second_vacant : pieces_in (3 ∷ []) one_split
    ≡ Some (cell_of 5 (6 ∷ [])) ∷ None ∷ Some (cell_of 0 (7 ∷ [])) ∷ None ∷ None ∷ None ∷ []
second_vacant = refl

first_vacant : pieces_in (2 ∷ []) one_split
    ≡ Some (cell_of 5 (6 ∷ [])) ∷ None ∷ None ∷ Some (cell_of 0 []) ∷ None ∷ None ∷ []
first_vacant = refl

-- the link is out of date
both_in_use : pieces_in [] one_split
    ≡ Some (cell_of 5 (6 ∷ [])) ∷ None ∷ Some (cell_of 0 (7 ∷ [])) ∷ Some (cell_of 0 []) ∷ None ∷ None ∷ []
both_in_use = refl

-- cell 0 names no cell, cell 1 names cell 0, and cell 2 itself
abbrev three : Slots
three = Some (cell_of 5 []) ∷ Some (cell_of 0 []) ∷ Some (cell_of 2 []) ∷ []

none_vacant : vacate three 0 1 ≡ three
none_vacant = refl

two_vacant : vacate three 2 1 ≡ None ∷ None ∷ Some (cell_of 2 []) ∷ []
two_vacant = refl

two_are_a_chain : IsChain three 2 1
two_are_a_chain = (refl, refl, (refl, refl, tt {0}))

-- there is no cell 5
three_are_none : IsChain three 3 1 → ⊥
three_are_none chain = true≢false (sym chain.2.2.0)

-- cell 2 is before itself
a_loop_is_none : IsChain three 2 2 → ⊥
a_loop_is_none chain = absurd (omega (arith, chain.1))
