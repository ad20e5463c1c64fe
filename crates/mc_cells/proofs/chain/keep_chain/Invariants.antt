-- The pieces from the full one that is next on are kept, and there is room for the full ones before.
use Rattle.std.proofs.Common.{◌≡◌, ◌+◌, ◌*◌, ◌≤◌, List, ◌∷◌, length, drop, ◌<◌}
use Rattle.mc_cells.specs.declared.TheConstants.{SPLIT}
use Rattle.mc_cells.specs.Halves.{ArePieces}
use Rattle.mc_cells.specs.Kept.{CellsHold, KeptValue, place_at}
use Rattle.mc_cells.proofs.chain.keep_chain.Given as goal

abbrev pub invariant-loop-full : goal.invariant-loop-full
invariant-loop-full l =
    (l.full * 60 ≤ length l.bytes) ×
    (l.cells.used + l.full ≤ l.cells.capacity) ×
    (l.cells.capacity ≡ l.fn.cells.capacity) ×
    ((kept : List KeptValue) → CellsHold l.fn.cells.slots kept → CellsHold l.cells.slots
    ((place_at l.first (length (drop (l.full * 60) l.bytes)), drop (l.full * 60) l.bytes) ∷ kept)) ×
    (l.first < SPLIT) ×
    (ArePieces l.fn.cells.used l.fn.cells.slots → ArePieces l.cells.used l.cells.slots)

abbrev pub decreases-loop-full : goal.decreases-loop-full
decreases-loop-full l = l.full
