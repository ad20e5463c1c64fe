use Rattle.std.proofs.Common.{arith, refl}
use Rattle.mc_cells.proofs.Joined.{piece_some, found_whole, found_half}
use Rattle.mc_cells.proofs.piece_pool.PiecePool.read_piece.Goals as goal

pub get-cell-requires : goal.get-cell-requires
get-cell-requires c =
    let fields = c.self.inside in
    piece_some fields.halves.items fields.cells.slots c.args.number (rw (← c.self.view_is) at c.requires.in_use)

pub returns-then-cell-lt-SPLIT-clause-next : goal.returns-then-cell-lt-SPLIT-clause-next
returns-then-cell-lt-SPLIT-clause-next c =
    let fields = c.self.inside in
    let here = found_whole fields.halves.items fields.cells.slots c.args.number c.get-cell.result.now c.get-cell.ensures
    (omega (arith, c.if-cell-lt-SPLIT.true)) (rw (← c.self.view_is) at c.requires.in_use) in
    rw (← c.self.view_is, here) refl

pub returns-then-cell-lt-SPLIT-clause-bytes : goal.returns-then-cell-lt-SPLIT-clause-bytes
returns-then-cell-lt-SPLIT-clause-bytes c =
    let fields = c.self.inside in
    let here = found_whole fields.halves.items fields.cells.slots c.args.number c.get-cell.result.now c.get-cell.ensures
    (omega (arith, c.if-cell-lt-SPLIT.true)) (rw (← c.self.view_is) at c.requires.in_use) in
    rw (← c.self.view_is, here, c.extend_reserved.ensures.items, c.bytes.ensures.bytes) refl

pub returns-clause-next : goal.returns-clause-next
returns-clause-next c =
    let fields = c.self.inside in
    let here = found_half fields.halves.items fields.cells.slots c.args.number c.get-cell.result.now c.get-cell.ensures
    (omega (arith, c.if-cell-lt-SPLIT.false)) (rw (← c.self.view_is) at c.requires.in_use) in
    rw (← c.self.view_is, here) refl

pub returns-clause-bytes : goal.returns-clause-bytes
returns-clause-bytes c =
    let fields = c.self.inside in
    let here = found_half fields.halves.items fields.cells.slots c.args.number c.get-cell.result.now c.get-cell.ensures
    (omega (arith, c.if-cell-lt-SPLIT.false)) (rw (← c.self.view_is) at c.requires.in_use) in
    rw (← c.self.view_is, here, c.extend_reserved-2.ensures.items, c.half.ensures.bytes) refl
