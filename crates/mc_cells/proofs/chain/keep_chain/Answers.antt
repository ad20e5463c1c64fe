use Rattle.std.proofs.Common.{◌≡◌, ◌+◌, ◌-◌, ◌*◌, ◌<◌, ◌∷◌, ◌++◌, ◌∙◌, take, drop, length, arith, length-drop}
use Rattle.mc_cells.specs.declared.TheConstants.{LONG_VALUE}
use Rattle.mc_cells.specs.Kept.{CellsHold, place_at}
use Rattle.mc_cells.proofs.Pieces.{piece_joined, piece_length}
use Rattle.mc_cells.proofs.chain.keep_chain.Goals as goal

pub loop-full-preserved : goal.loop-full-preserved
loop-full-preserved c =
    let before = c.loop-full.invariant in
    let some = c.loop-full-test.true in
    let full = c.loop-full.full in
    let added = c.add_cell-first.ensures in
    let bytes = c.args.bytes.now in
    let sum : full * 60 ≡ (full - 1) * 60 + 60 = omega (arith, some) in
    let size = piece_length bytes ((full - 1) * 60) (full * 60) sum before.0 in
    let piece : c.piece_at.result ≡ take 60 (drop ((full - 1) * 60) bytes) = c.piece_at.ensures in
    let short : length (drop (full * 60) bytes) + 60 < LONG_VALUE
    = omega (arith, size, length-drop ((full - 1) * 60) bytes, c.requires.short) in (
      omega (arith, before.0, some),
      omega (arith, added.used, added.capacity, before.1, some),
      added.capacity ∙ before.2,
      λ kept hold.
          let step : CellsHold c.add_cell-first.new.cells.slots
          ((
            place_at c.add_cell-first.result (length (drop (full * 60) bytes) + 60),
            c.piece_at.result ++ drop (full * 60) bytes,
          ) ∷ kept)
          = added.before (drop (full * 60) bytes) kept short (before.3 kept hold) in
          rw (piece, size, piece_joined bytes ((full - 1) * 60) (full * 60) sum) at step,
      added.below,
      λ _. added.pieces,
    )
