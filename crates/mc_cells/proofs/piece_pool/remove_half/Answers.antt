use Rattle.std.proofs.Common.{◌≡◌, ◌-◌, ◌/◌, arith}
use Rattle.mc_cells.specs.declared.TheConstants.{SPLIT}
use Rattle.mc_cells.specs.Chain.{cell_at, next_in}
use Rattle.mc_cells.proofs.Halved.{piece_at}
use Rattle.mc_cells.proofs.Joined.{used_test}
use Rattle.mc_cells.proofs.piece_pool.remove_half.Goals as goal

pub vacate_half-requires-clause-in_use : goal.vacate_half-requires-clause-in_use
vacate_half-requires-clause-in_use c =
    let halves = c.args.halves.now.items in
    let slots = c.args.cells.now.slots in
    let slot = cell_at slots (c.args.number / 2) in
    let at : next_in slot - SPLIT ≡ c.args.at = omega (arith, c.requires.link) in
    rw at (used_test halves c.args.number c.args.at slot c.requires.link (rw (piece_at halves slots c.args.number) at
    c.requires.in_use))
