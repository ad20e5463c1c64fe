use Rattle.mc_cells.proofs.Halved.{pieces_counted}
use Rattle.mc_cells.proofs.piece_pool.PiecePool.insert_half.Goals as goal

pub returns-then-is_empty-clause-pieces : goal.returns-then-is_empty-clause-pieces
returns-then-is_empty-clause-pieces c = pieces_counted c.split.new.halves.items c.split.new.cells.slots

pub returns-else-is_empty-clause-pieces : goal.returns-else-is_empty-clause-pieces
returns-else-is_empty-clause-pieces c = pieces_counted c.fill.new.halves.items c.fill.new.cells.slots
