-- The page has the bytes of the cells passed, and room for those that are left.
use Rattle.std.proofs.Common.{◌≡◌, ◌*◌, ◌≤◌, ◌++◌}
use Rattle.mc_cells.specs.Chain.{IsChain, chain_bytes}
use Rattle.mc_cells.proofs.reading.read_chain.Given as goal

abbrev pub invariant-loop-left : goal.invariant-loop-left
invariant-loop-left l =
    IsChain l.cells.slots l.left l.at ×
    (l.left * 60 ≤ l.page.spare) ×
    (l.page.items ++ chain_bytes l.cells.slots l.left l.at
    ≡ l.fn.page.items ++ chain_bytes l.cells.slots l.fn.count l.fn.first)

abbrev pub decreases-loop-left : goal.decreases-loop-left
decreases-loop-left l = l.left
