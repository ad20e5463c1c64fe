use Rattle.std.proofs.Common.{◌∙◌}
use Rattle.mc_cells.proofs.chain.remove_chain.Goals as goal

pub loop-left-preserved : goal.loop-left-preserved
loop-left-preserved c =
    let before = c.loop-left.invariant in
    let some = c.loop-left-test.true in
    let taken = c.take_cell-at.ensures in (
      taken.chain c.loop-left.left some before.0,
      taken.capacity ∙ before.1,
      λ kept beside. taken.beside c.loop-left.left kept some (before.2 kept beside),
      λ _. taken.pieces,
    )
