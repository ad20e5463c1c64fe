use Rattle.std.proofs.Common.{◌-◌, ◌++◌, ◌∙◌, ap, sym, arith, append_assoc}
use Rattle.mc_cells.specs.Chain.{cell_at, chain_bytes, bytes_in, next_in}
use Rattle.mc_cells.proofs.Taken.{bytes_behind, rest_is_chain}
use Rattle.mc_cells.proofs.reading.read_chain.Goals as goal

pub loop-left-preserved : goal.loop-left-preserved
loop-left-preserved c =
    let before = c.loop-left.invariant in
    let some = c.loop-left-test.true in
    let slots = c.args.cells.now.slots in
    let at = c.loop-left.at in
    let left = c.loop-left.left in
    let by = c.read_piece-at.ensures in
    let behind = bytes_behind slots at left some in (
      rw by.next (rest_is_chain slots at left some before.0),
      omega (arith, by.spare, before.1, some),
      rw (by.bytes, by.next)
          (append_assoc c.loop-left.page.items (bytes_in (cell_at slots at))
          (chain_bytes slots (left - 1) (next_in (cell_at slots at)))
          ∙ ap (λ xs. c.loop-left.page.items ++ xs) (sym behind) ∙ before.2),
    )
