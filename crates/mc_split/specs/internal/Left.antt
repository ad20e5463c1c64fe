-- The pieces that are left of a command with many of them.
use Rattle.std.specs.Prelude.{ℕ, ℤ, ◌-◌, List, Option, length, map}
use Rattle.std.specs.List.{range_with_len}
use Rattle.mc_item.specs.declared.op.Op.{Op}
use Rattle.mc_item.specs.declared.op.Op.TheVariants as op
use Rattle.mc_split.specs.Pieces.{ShardOp, asked_of}
use Rattle.mc_split.specs.Plan.{parts_from}
use Rattle.mc_split.specs.declared.plan.Piece.{Piece}
use Rattle.mc_split.specs.declared.planner.Planner.{Planner}

-- the fetches of these keys, one a key
abbrev pub gets_of : ℕ → Option ℤ → List (List ℕ) → List ShardOp
gets_of shards touch keys = map (λ key. asked_of shards key (op.Fetch key touch)) keys

-- what this many shards are asked, from the one numbered `first` on
abbrev pub asks_from : Op → ℕ → ℕ → List ShardOp
asks_from op first count = map (λ shard. record { shard = shard; op = op }) (range_with_len first count)

-- the fetches of the last keys of a get of `count` keys
abbrev pub fetches_left : Planner → Option ℤ → ℕ → List (List ℕ) → List (ℕ × Piece)
fetches_left planner touch count keys =
    parts_from (count - length keys) planner.ticket planner.moment (gets_of planner.shards touch keys)
