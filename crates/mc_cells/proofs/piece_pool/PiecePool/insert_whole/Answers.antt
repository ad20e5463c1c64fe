use Rattle.std.proofs.Common.{◌≡◌, ◌<◌, ap, arith}
use Rattle.mc_cells.specs.declared.TheConstants.{MAX_CELLS, SPLIT}
use Rattle.mc_cells.specs.declared.cell.Cell.{Cell}
use Rattle.mc_cells.proofs.Vacant.{within}
use Rattle.mc_cells.proofs.Halved.{linked_added, pieces_counted, whole_added}
use Rattle.mc_cells.proofs.piece_pool.PiecePool.insert_whole.Goals as goal

pub overflow_mul-result : goal.overflow_mul-result
overflow_mul-result c =
    let room = rw (← c.self.view_is) at c.requires.room in
    let few = rw (← c.self.view_is) at c.requires.few in
    let by = c.insert_reserved.ensures in
    let most = by.length MAX_CELLS c.self.invariant.2 (omega (arith, room, few)) in
    let below = within c.insert_reserved.new.self.slots c.insert_reserved.result c.new.result by.added.here in
    omega (arith, most, below)

pub invariant_of-self : goal.invariant_of-self
invariant_of-self c =
    let fields = c.self.inside in
    let room = rw (← c.self.view_is) at c.requires.room in
    let few = rw (← c.self.view_is) at c.requires.few in
    let by = c.insert_reserved.ensures in (
      linked_added fields.halves.items fields.cells.slots c.insert_reserved.new.self.slots c.insert_reserved.result
          c.new.result by.added c.self.invariant.0,
      by.length fields.room c.self.invariant.1 room,
      by.length MAX_CELLS c.self.invariant.2 (omega (arith, room, few)),
      omega (arith, by.capacity, c.self.invariant.3),
      c.self.invariant.4,
    )

pub returns-clause-added : goal.returns-clause-added
returns-clause-added c =
    let fields = c.self.inside in
    let by = c.insert_reserved.ensures in
    let cell = c.new.ensures.cell in
    let next : c.new.result.next ≡ c.args.next = ap (λ (cell : Cell). cell.next) cell in
    let whole : c.new.result.next < SPLIT = rw next c.requires.link in
    rw (← c.self.view_is, ← cell)
    (whole_added fields.halves.items fields.cells.slots c.insert_reserved.new.self.slots c.insert_reserved.result
    c.new.result whole by.added)

pub returns-clause-pieces : goal.returns-clause-pieces
returns-clause-pieces c = pieces_counted c.self.inside.halves.items c.insert_reserved.new.self.slots

pub returns-clause-below : goal.returns-clause-below
returns-clause-below c =
    let room = rw (← c.self.view_is) at c.requires.room in
    let few = rw (← c.self.view_is) at c.requires.few in
    let by = c.insert_reserved.ensures in
    let most = by.length MAX_CELLS c.self.invariant.2 (omega (arith, room, few)) in
    let below = within c.insert_reserved.new.self.slots c.insert_reserved.result c.new.result by.added.here in
    omega (arith, most, below)
