-- What contracts see of a queue of pieces.
use Rattle.std.specs.Prelude.{ℕ, List}
use Rattle.mc_split.specs.declared.plan.Piece.{Piece}

-- all pieces with their shards, oldest first, those too that are made only once they are taken
pub record Queued : Type 0 where
  pub items : List (ℕ × Piece)
