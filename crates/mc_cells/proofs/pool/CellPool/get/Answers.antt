use Rattle.std.proofs.Common.{arith}
use Rattle.mc_cells.proofs.Vacant.{in_vector, read_in_use}
use Rattle.mc_cells.proofs.pool.CellPool.get.Goals as goal

pub index-requires : goal.index-requires
index-requires c =
    let fields = c.self.inside in
    let inside = in_vector fields.cells.items fields.vacant fields.free c.args.number (rw (← c.self.view_is) at
    c.requires) in
    omega (arith, inside, fields.cells.ok)

pub returns : goal.returns
returns c =
    let fields = c.self.inside in
    rw (← c.self.view_is) (read_in_use fields.cells.items fields.vacant fields.free c.args.number c.index.result.now
    (rw (← c.self.view_is) at c.requires) c.index.ensures)
