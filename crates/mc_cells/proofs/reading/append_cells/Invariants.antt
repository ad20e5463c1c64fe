-- The bytes of the cells passed are appended, and there is room for those that are left.
use Rattle.std.proofs.Common.{◌≡◌, ◌+◌, ◌*◌, ◌≤◌, ◌++◌}
use Rattle.std.specs.Prelude.{vec_len, vec_capacity}
use Rattle.mc_cells.specs.Chain.{IsChain, chain_bytes}
use Rattle.mc_cells.proofs.reading.append_cells.Given as goal

abbrev pub invariant-loop-left : goal.invariant-loop-left
invariant-loop-left l =
    IsChain l.cells.slots l.left l.at ×
    (vec_len l.out + l.left * 60 ≤ vec_capacity l.out) ×
    (l.out.items ++ chain_bytes l.cells.slots l.left l.at
    ≡ l.fn.out.items ++ chain_bytes l.cells.slots l.fn.count l.fn.first)

abbrev pub decreases-loop-left : goal.decreases-loop-left
decreases-loop-left l = l.left
