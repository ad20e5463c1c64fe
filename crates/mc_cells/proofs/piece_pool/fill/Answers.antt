use Rattle.std.proofs.Common.{◌≡◌, ◌/◌, ◌++◌, [], ◌∷◌, length}
use Rattle.mc_cells.proofs.Joined.{filled, linked_some}
use Rattle.mc_cells.proofs.Listed.{get_last}
use Rattle.mc_cells.specs.Chain.{cell_at}
use Rattle.mc_cells.proofs.piece_pool.fill.Goals as goal

pub get-requires : goal.get-requires
get-requires c =
    let number = c.unwrap-number.result in
    let front = c.pop.new.self.items in
    let all : c.args.halves.now.items ≡ front ++ number ∷ [] = rw c.unwrap-number.ensures at c.pop.ensures.items in
    linked_some (cell_at c.args.cells.now.slots (number / 2)) (length front)
    ((rw all at c.requires.linked) (length front) number (get_last front number))

pub returns-clause-added : goal.returns-clause-added
returns-clause-added c =
    let number = c.unwrap-number.result in
    let front = c.pop.new.self.items in
    let all : c.args.halves.now.items ≡ front ++ number ∷ [] = rw c.unwrap-number.ensures at c.pop.ensures.items in
    let by = c.with_half-cell.ensures in
    rw (c.set.ensures.slots, all)
    (filled front number c.args.cells.now.slots c.get.result.now c.with_half-cell.result c.args.bytes
    (rw all at c.requires.linked) c.get.ensures by.next by.here by.beside)
