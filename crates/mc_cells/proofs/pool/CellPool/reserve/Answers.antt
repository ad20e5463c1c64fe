use Rattle.std.proofs.Common.{ap, arith}
use Rattle.mc_cells.specs.Pool.{Pool}
use Rattle.mc_cells.proofs.Vacant.{pool_count}
use Rattle.mc_cells.proofs.pool.CellPool.reserve.Goals as goal

pub overflow_sub-capacity : goal.overflow_sub-capacity
overflow_sub-capacity c =
    let fields = c.self.inside in
    let used = rw (← c.self.view_is) at c.len.ensures in
    let count = pool_count fields.cells.items fields.vacant fields.free c.self.invariant in
    omega (arith, used, c.capacity.ensures, count, fields.cells.ok)

pub returns-then-capacity-len-clause-room : goal.returns-then-capacity-len-clause-room
returns-then-capacity-len-clause-room c =
    let fields = c.self.inside in
    let used = rw (← c.self.view_is) at c.len.ensures in
    let count = pool_count fields.cells.items fields.vacant fields.free c.self.invariant in
    let capacity = ap (λ (pool : Pool). pool.capacity) c.self.view_is in
    omega (
      arith,
      c.len.ensures,
      used,
      capacity,
      count,
      fields.cells.ok,
      c.capacity.ensures,
      c.if-capacity-len.true,
    )

pub overflow_sub-more : goal.overflow_sub-more
overflow_sub-more c =
    let fields = c.self.inside in
    let used = rw (← c.self.view_is) at c.len.ensures in
    let count = pool_count fields.cells.items fields.vacant fields.free c.self.invariant in
    omega (arith, used, c.capacity.ensures, count, fields.cells.ok, c.if-capacity-len.false)

pub returns-clause-room : goal.returns-clause-room
returns-clause-room c =
    let fields = c.self.inside in
    let count = pool_count fields.cells.items fields.vacant fields.free c.self.invariant in
    let grown = c.in_ok-reserve_exact.ensures in
    rw grown.items (omega (arith, count, fields.cells.ok, grown.ok, grown.len, c.max.ensures))
