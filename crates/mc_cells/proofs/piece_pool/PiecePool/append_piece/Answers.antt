use Rattle.std.proofs.Common.{◌≡◌, ◌++◌, arith, refl}
use Rattle.std.specs.Prelude.{IsOk}
use Rattle.mc_cells.proofs.Joined.{piece_some, found_whole, found_half}
use Rattle.mc_cells.proofs.piece_pool.PiecePool.append_piece.Goals as goal

pub get-cell-requires : goal.get-cell-requires
get-cell-requires c =
    let fields = c.self.inside in
    piece_some fields.halves.items fields.cells.slots c.args.number (rw (← c.self.view_is) at c.requires.in_use)

pub returns-then-cell-lt-SPLIT-clause-next : goal.returns-then-cell-lt-SPLIT-clause-next
returns-then-cell-lt-SPLIT-clause-next c =
    let fields = c.self.inside in
    let here = found_whole fields.halves.items fields.cells.slots c.args.number c.get-cell.result.now c.get-cell.ensures
    (omega (arith, c.if-cell-lt-SPLIT.true)) (rw (← c.self.view_is) at c.requires.in_use) in
    rw (← c.self.view_is, here) refl

pub returns-then-cell-lt-SPLIT-clause-bytes : goal.returns-then-cell-lt-SPLIT-clause-bytes
returns-then-cell-lt-SPLIT-clause-bytes c =
    let fields = c.self.inside in
    let here = found_whole fields.halves.items fields.cells.slots c.args.number c.get-cell.result.now c.get-cell.ensures
    (omega (arith, c.if-cell-lt-SPLIT.true)) (rw (← c.self.view_is) at c.requires.in_use) in
    let src = c.bytes.result.now in
    let written = c.extend_from_slice.ensures in
    let whole = c.bytes.ensures.whole in
    let fits : IsOk c.extend_from_slice.result = written.succeeds (omega (arith, c.requires.room, whole)) in
    let items : c.extend_from_slice.new.self.items ≡ c.args.out.now.items ++ src = rw fits at written.items in
    rw (← c.self.view_is, here, items, c.bytes.ensures.bytes) refl

pub returns-clause-next : goal.returns-clause-next
returns-clause-next c =
    let fields = c.self.inside in
    let here = found_half fields.halves.items fields.cells.slots c.args.number c.get-cell.result.now c.get-cell.ensures
    (omega (arith, c.if-cell-lt-SPLIT.false)) (rw (← c.self.view_is) at c.requires.in_use) in
    rw (← c.self.view_is, here) refl

pub returns-clause-bytes : goal.returns-clause-bytes
returns-clause-bytes c =
    let fields = c.self.inside in
    let here = found_half fields.halves.items fields.cells.slots c.args.number c.get-cell.result.now c.get-cell.ensures
    (omega (arith, c.if-cell-lt-SPLIT.false)) (rw (← c.self.view_is) at c.requires.in_use) in
    let src = c.half.result.now in
    let written = c.extend_from_slice-2.ensures in
    let whole = c.half.ensures.len in
    let fits : IsOk c.extend_from_slice-2.result = written.succeeds (omega (arith, c.requires.room, whole)) in
    let items : c.extend_from_slice-2.new.self.items ≡ c.args.out.now.items ++ src = rw fits at written.items in
    rw (← c.self.view_is, here, items, c.half.ensures.bytes) refl
