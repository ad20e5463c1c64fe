use Rattle.std.proofs.Common.{◌<◌, ◌-◌, Some, map, set, arith, length-set}
use Rattle.std.proofs.lemmas.List.{map-set}
use Rattle.mc_cells.specs.declared.cell.Cell.{Cell}
use Rattle.mc_cells.proofs.Vacant.{pool_count, reused, read_is, first_in_vector, vacate_map}
use Rattle.mc_cells.proofs.pool.CellPool.insert_reserved.Goals as goal

pub overflow_cast-number : goal.overflow_cast-number
overflow_cast-number c =
    let fields = c.self.inside in
    let room = rw (← c.self.view_is) at c.requires.room in
    let few = rw (← c.self.view_is) at c.requires.few in
    let count = pool_count fields.cells.items fields.vacant fields.free c.self.invariant in
    omega (arith, room, few, count, c.if-self-eq0.true, c.len-number.ensures)

pub push_reserved-requires : goal.push_reserved-requires
push_reserved-requires c =
    let fields = c.self.inside in
    let room = rw (← c.self.view_is) at c.requires.room in
    let count = pool_count fields.cells.items fields.vacant fields.free c.self.invariant in
    omega (arith, room, count, c.if-self-eq0.true, fields.cells.ok)

pub invariant_of-self-2 : goal.invariant_of-self-2
invariant_of-self-2 c =
    let fields = c.self.inside in
    let cells = fields.cells.items in
    let was = c.index.result.now in
    let some : 0 < fields.vacant = omega (arith, c.if-self-eq0.false) in
    let inside = first_in_vector cells fields.vacant fields.free some c.self.invariant in
    let here = read_is cells fields.free was inside c.index.ensures in
    rw (map-set (λ (cell : Cell). Some cell) cells fields.free c.args.cell)
    ((reused (map Some cells) fields.vacant fields.free c.args.cell was some c.self.invariant here).chain)

pub returns-clause-added : goal.returns-clause-added
returns-clause-added c =
    let fields = c.self.inside in
    let cells = fields.cells.items in
    let was = c.index.result.now in
    let some : 0 < fields.vacant = omega (arith, c.if-self-eq0.false) in
    let inside = first_in_vector cells fields.vacant fields.free some c.self.invariant in
    let here = read_is cells fields.free was inside c.index.ensures in
    rw (← c.self.view_is, map-set (λ (cell : Cell). Some cell) cells fields.free c.args.cell)
    ((reused (map Some cells) fields.vacant fields.free c.args.cell was some c.self.invariant here).added)

pub returns-then-self-eq0-clause-length : goal.returns-then-self-eq0-clause-length
returns-then-self-eq0-clause-length c =
    λ n within more.
    let fields = c.self.inside in
    let new = c.push_reserved.new.self in
    let count = pool_count fields.cells.items fields.vacant fields.free c.self.invariant in
    let used = rw (← c.self.view_is) at more in
    omega (
      arith,
      used,
      count,
      vacate_map new.items fields.vacant fields.free,
      c.push_reserved.ensures.len,
      fields.cells.ok,
      new.ok,
      c.if-self-eq0.true,
    )

pub returns-clause-length : goal.returns-clause-length
returns-clause-length c =
    λ n within more.
    let fields = c.self.inside in
    let cells = fields.cells.items in
    let inside = rw (← c.self.view_is) at within in
    omega (
      arith,
      inside,
      vacate_map cells fields.vacant fields.free,
      vacate_map (set cells fields.free c.args.cell) (fields.vacant - 1) c.index.result.now.next,
      length-set cells fields.free c.args.cell,
    )
