use Rattle.std.proofs.Common.{arith}
use Rattle.mc_cells.proofs.Vacant.{pool_count}
use Rattle.mc_cells.proofs.pool.CellPool.len.Goals as goal

pub overflow_sub-result : goal.overflow_sub-result
overflow_sub-result c =
    let fields = c.self.inside in
    omega (arith, c.len.ensures, pool_count fields.cells.items fields.vacant fields.free c.self.invariant)

pub returns : goal.returns
returns c =
    let fields = c.self.inside in
    rw (← c.self.view_is)
    (omega (arith, c.len.ensures, pool_count fields.cells.items fields.vacant fields.free c.self.invariant))
