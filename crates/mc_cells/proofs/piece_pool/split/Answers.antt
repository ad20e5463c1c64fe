use Rattle.std.proofs.Common.{◌≡◌, ◌+◌, ◌*◌, ◌∙◌, [], ◌∷◌, arith, ap}
use Rattle.mc_cells.specs.declared.TheConstants.{MAX_CELLS, SPLIT}
use Rattle.mc_cells.specs.declared.cell.Cell.{Cell}
use Rattle.mc_cells.specs.Halves.{IsHalfAdded}
use Rattle.mc_cells.specs.Chain.{cell_of}
use Rattle.mc_cells.proofs.Vacant.{within}
use Rattle.mc_cells.proofs.Joined.{split_off}
use Rattle.mc_cells.proofs.piece_pool.split.Goals as goal

pub overflow_mul-number : goal.overflow_mul-number
overflow_mul-number c =
    let by = c.insert_reserved-number.ensures in
    let most = by.length MAX_CELLS c.requires.within c.requires.few in
    let below = within c.insert_reserved-number.new.self.slots c.insert_reserved-number.result c.with_half-cell.result
    by.added.here in
    omega (arith, most, below)

pub overflow_add-number : goal.overflow_add-number
overflow_add-number c =
    let by = c.insert_reserved-number.ensures in
    let most = by.length MAX_CELLS c.requires.within c.requires.few in
    let below = within c.insert_reserved-number.new.self.slots c.insert_reserved-number.result c.with_half-cell.result
    by.added.here in
    omega (arith, most, below)

pub returns-clause-added : goal.returns-clause-added
returns-clause-added c =
    let by = c.insert_reserved-number.ensures in
    let cell = c.with_half-cell.result in
    let new = c.insert_reserved-number.new.self.slots in
    let number = c.insert_reserved-number.result in
    let link : cell.next ≡ SPLIT
    = c.with_half-cell.ensures.next ∙ ap (λ (cell : Cell). cell.next) c.new.ensures.cell in
    let added : IsHalfAdded [] c.args.cells.now.slots ((number * 2 + 1) ∷ []) new (number * 2) (cell_of 0 c.args.bytes)
    = split_off c.args.cells.now.slots new number cell c.args.bytes by.added link c.with_half-cell.ensures.here in
    rw (c.push_reserved.ensures.items, c.requires.none) added

pub returns-clause-below : goal.returns-clause-below
returns-clause-below c =
    let by = c.insert_reserved-number.ensures in
    let most = by.length MAX_CELLS c.requires.within c.requires.few in
    let below = within c.insert_reserved-number.new.self.slots c.insert_reserved-number.result c.with_half-cell.result
    by.added.here in
    omega (arith, most, below)
