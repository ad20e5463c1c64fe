use Rattle.std.proofs.Common.{◌≡◌, ◌<◌, ◌/◌, ◌*◌, ◌∙◌, arith, ap, sym, refl}
use Rattle.std.proofs.lemmas.Option.{same_Some}
use Rattle.mc_cells.specs.declared.TheConstants.{SPLIT}
use Rattle.mc_cells.specs.declared.cell.Cell.{Cell}
use Rattle.mc_cells.specs.Chain.{cell_at, cell_of}
use Rattle.mc_cells.specs.Halves.{half_of}
use Rattle.mc_cells.proofs.Halved.{linked_removed, piece_at, pieces_counted, whole_added}
use Rattle.mc_cells.proofs.Joined.{piece_some, whole_even, found_half}
use Rattle.mc_cells.proofs.piece_pool.PiecePool.remove.Goals as goal

pub get-requires : goal.get-requires
get-requires c =
    let fields = c.self.inside in
    piece_some fields.halves.items fields.cells.slots c.args.number (rw (← c.self.view_is) at c.requires)

pub invariant_of-self : goal.invariant_of-self
invariant_of-self c =
    let fields = c.self.inside in
    let gone = c.remove.ensures.removed in
    let same : c.get.result.now ≡ gone.cell
    = same_Some c.get.result.now gone.cell (sym c.get.ensures ∙ gone.removed.here) in
    let next = ap (λ (cell : Cell). cell.next) same in
    let whole : gone.cell.next < SPLIT = omega (arith, next, c.if-next-lt-SPLIT.true) in
    let length = c.remove.ensures.length in (
      linked_removed fields.halves.items fields.cells.slots c.remove.new.self.slots (c.args.number / 2) gone.cell whole
          gone.removed c.self.invariant.0,
      omega (arith, length, c.self.invariant.1),
      omega (arith, length, c.self.invariant.2),
      omega (arith, c.remove.ensures.capacity, c.self.invariant.3),
      c.self.invariant.4,
    )

pub returns-then-next-lt-SPLIT-clause-removed : goal.returns-then-next-lt-SPLIT-clause-removed
returns-then-next-lt-SPLIT-clause-removed c =
    let fields = c.self.inside in
    let gone = c.remove.ensures.removed in
    let same : c.get.result.now ≡ gone.cell
    = same_Some c.get.result.now gone.cell (sym c.get.ensures ∙ gone.removed.here) in
    let next = ap (λ (cell : Cell). cell.next) same in
    let whole : gone.cell.next < SPLIT = omega (arith, next, c.if-next-lt-SPLIT.true) in
    let some = rw (← c.self.view_is) at c.requires in
    let even = whole_even fields.halves.items c.args.number (cell_at fields.cells.slots (c.args.number / 2)) gone.cell
    gone.removed.here whole (rw (piece_at fields.halves.items fields.cells.slots c.args.number) at some) in
    let twice : c.args.number / 2 * 2 ≡ c.args.number = omega (arith, even) in
    let new = c.remove.new.self.slots in
    let added =
    whole_added fields.halves.items new fields.cells.slots (c.args.number / 2) gone.cell whole gone.removed in
    record {
      cell = gone.cell;
      next_is = gone.next_is;
      removed = rw (← c.self.view_is) (rw twice at added);
    }

pub returns-then-next-lt-SPLIT-clause-pieces : goal.returns-then-next-lt-SPLIT-clause-pieces
returns-then-next-lt-SPLIT-clause-pieces c = pieces_counted c.self.inside.halves.items c.remove.new.self.slots

pub returns-clause-removed : goal.returns-clause-removed
returns-clause-removed c =
    let fields = c.self.inside in
    let cell = c.get.result.now in
    let here = found_half fields.halves.items fields.cells.slots c.args.number cell c.get.ensures
    (omega (arith, c.if-next-lt-SPLIT.false)) (rw (← c.self.view_is) at c.requires) in
    let piece = cell_of 0 (half_of c.args.number cell.bytes) in
    record {
      cell = piece;
      next_is = refl;
      removed = rw (← c.self.view_is) (c.remove_half.ensures.removed.removed piece here);
    }

pub returns-clause-pieces : goal.returns-clause-pieces
returns-clause-pieces c = pieces_counted c.remove_half.new.halves.items c.remove_half.new.cells.slots
