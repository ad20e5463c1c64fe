-- A chain of as many cells as are left is beside the other values.
use Rattle.std.proofs.Common.{◌≡◌, List}
use Rattle.mc_cells.specs.Chain.{IsChain}
use Rattle.mc_cells.specs.Halves.{ArePieces}
use Rattle.mc_cells.specs.Kept.{IsBeside, KeptValue}
use Rattle.mc_cells.proofs.chain.remove_chain.Given as goal

abbrev pub invariant-loop-left : goal.invariant-loop-left
invariant-loop-left l =
    IsChain l.cells.slots l.left l.at ×
    (l.cells.capacity ≡ l.fn.cells.capacity) ×
    ((kept : List KeptValue) → IsBeside l.fn.cells.slots l.fn.count l.fn.first kept
    → IsBeside l.cells.slots l.left l.at kept) ×
    (ArePieces l.fn.cells.used l.fn.cells.slots → ArePieces l.cells.used l.cells.slots)

abbrev pub decreases-loop-left : goal.decreases-loop-left
decreases-loop-left l = l.left
