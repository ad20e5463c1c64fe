use Rattle.std.proofs.Common.{arith, refl, length-set, ◌+◌}
use Rattle.std.specs.Prelude.{slice_set}
use Rattle.mc_cells.specs.Chain.{cell_of}
use Rattle.mc_cells.proofs.Vacant.{pool_count, in_vector, read_in_use, vacated_in, vacate_map}
use Rattle.mc_cells.proofs.pool.CellPool.remove.Goals as goal

pub index-requires : goal.index-requires
index-requires c =
    let fields = c.self.inside in
    let inside = in_vector fields.cells.items fields.vacant fields.free c.args.number (rw (← c.self.view_is) at
    c.requires) in
    omega (arith, inside, fields.cells.ok)

pub index_mut-requires : goal.index_mut-requires
index_mut-requires c =
    let fields = c.self.inside in
    let inside = in_vector fields.cells.items fields.vacant fields.free c.args.number (rw (← c.self.view_is) at
    c.requires) in
    omega (arith, inside, fields.cells.ok)

pub overflow_add-self : goal.overflow_add-self
overflow_add-self c =
    let fields = c.self.inside in
    let count = pool_count fields.cells.items fields.vacant fields.free c.self.invariant in
    omega (arith, count, fields.cells.ok)

pub invariant_of-self : goal.invariant_of-self
invariant_of-self c =
    let fields = c.self.inside in
    let cells = fields.cells.items in
    let was = c.index.result.now in
    let changed = cell_of fields.free c.index_mut.result.now.bytes in
    let here = read_in_use cells fields.vacant fields.free c.args.number was (rw (← c.self.view_is) at c.requires)
    c.index.ensures in
    (vacated_in cells fields.vacant fields.free c.args.number was changed c.self.invariant here refl).chain

pub returns-clause-removed : goal.returns-clause-removed
returns-clause-removed c =
    let fields = c.self.inside in
    let cells = fields.cells.items in
    let was = c.index.result.now in
    let changed = cell_of fields.free c.index_mut.result.now.bytes in
    let here = read_in_use cells fields.vacant fields.free c.args.number was (rw (← c.self.view_is) at c.requires)
    c.index.ensures in
    record {
      cell = was;
      next_is = refl;
      removed = rw (← c.self.view_is)
          ((vacated_in cells fields.vacant fields.free c.args.number was changed c.self.invariant here refl).removed);
    }

pub returns-clause-length : goal.returns-clause-length
returns-clause-length c =
    let fields = c.self.inside in
    let cells = fields.cells.items in
    let changed = cell_of fields.free c.index_mut.result.now.bytes in
    rw (← c.self.view_is) (omega (
      arith,
      vacate_map (slice_set cells c.args.number changed) (fields.vacant + 1) c.args.number,
      length-set cells c.args.number changed,
      vacate_map cells fields.vacant fields.free,
    ))
