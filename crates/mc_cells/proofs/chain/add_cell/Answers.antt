use Rattle.std.proofs.Common.{◌≡◌, length, rules}
use Rattle.mc_cells.specs.Chain.{cell_of}
use Rattle.mc_cells.proofs.Added.{piece_before}
use Rattle.mc_cells.proofs.chain.add_cell.Goals as goal

pub returns-clause-before : goal.returns-clause-before
returns-clause-before c =
    λ text kept short hold.
    let whole : length c.args.bytes ≡ 60 = search rules in
    piece_before c.args.cells.now.slots c.insert_whole.new.self.slots c.insert_whole.result
    (cell_of c.args.next c.args.bytes) text kept c.insert_whole.ensures.added whole short hold
