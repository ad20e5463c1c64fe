use Rattle.std.proofs.Common.{arith}
use Rattle.mc_cells.proofs.Vacant.{in_vector, changed_in}
use Rattle.mc_cells.proofs.pool.CellPool.set.Goals as goal

pub index_mut-requires : goal.index_mut-requires
index_mut-requires c =
    let fields = c.self.inside in
    let inside = in_vector fields.cells.items fields.vacant fields.free c.args.number (rw (← c.self.view_is) at
    c.requires) in
    omega (arith, inside, fields.cells.ok)

pub invariant_of-self : goal.invariant_of-self
invariant_of-self c =
    let fields = c.self.inside in
    (changed_in fields.cells.items fields.vacant fields.free c.args.number c.args.cell c.self.invariant (rw
    (← c.self.view_is) at c.requires)).chain

pub returns-clause-slots : goal.returns-clause-slots
returns-clause-slots c =
    let fields = c.self.inside in
    rw (← c.self.view_is) ((changed_in fields.cells.items fields.vacant fields.free c.args.number c.args.cell
    c.self.invariant (rw (← c.self.view_is) at c.requires)).slots)
