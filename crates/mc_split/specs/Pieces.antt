-- The pieces of a command: what each shard is asked, in order.
use Rattle.std.specs.Prelude.{ℕ, List, [], ◌∷◌, map}
use Rattle.std.specs.List.{range_with_len}
use Rattle.mc_wire.specs.Key.{place_of}
use Rattle.mc_command.specs.declared.command.Command.{Command}
use Rattle.mc_command.specs.declared.command.Command.TheVariants as command
use Rattle.mc_command.specs.declared.command.StatsRequest.TheVariants as request
use Rattle.mc_item.specs.declared.op.Op.{Op}
use Rattle.mc_item.specs.declared.op.Op.TheVariants as op

-- a piece: the shard that is asked, and what it is asked
pub record ShardOp : Type 0 where
  pub shard : ℕ
  pub op : Op

-- what is asked of the item under a key, which is on the key's shard
abbrev pub asked_of : ℕ → List ℕ → Op → ShardOp
asked_of shards key op = record { shard = place_of key shards; op = op }

-- what every shard is asked, in rising order
abbrev pub asked_of_all : ℕ → Op → List ShardOp
asked_of_all shards op = map (λ shard. record { shard = shard; op = op }) (range_with_len 0 shards)

-- The pieces of a command, over the given number of shards: one for a command with one key, one a key in the order of
-- the request for a get, one a shard for flush_all and stats, and none for what asks no shard.
unfoldable pub pieces_of : ℕ → Command → List ShardOp
pieces_of shards (command.Store storage) = asked_of shards storage.asked.key (op.Store storage.asked) ∷ []
pieces_of shards (command.Get retrieval) =
    map (λ key. asked_of shards key (op.Fetch key retrieval.touch)) retrieval.keys
pieces_of shards (command.Delete key noreply) = asked_of shards key (op.Delete key) ∷ []
pieces_of shards (command.Count key direction amount noreply) = asked_of shards key (op.Count key direction amount) ∷ []
pieces_of shards (command.Touch key exptime noreply) = asked_of shards key (op.Touch key exptime) ∷ []
pieces_of shards (command.FlushAll delay noreply) = asked_of_all shards (op.Flush delay)
pieces_of shards (command.Stats request.General) = asked_of_all shards op.Stats
pieces_of shards (command.Stats request.Reset) = asked_of_all shards op.ResetStats
pieces_of shards (command.MetaGet get) = asked_of shards get.asked.key (op.MetaGet get.asked) ∷ []
pieces_of shards (command.MetaSet set) = asked_of shards set.asked.key (op.MetaStore set.asked) ∷ []
pieces_of shards (command.MetaDelete delete) = asked_of shards delete.asked.key (op.MetaDelete delete.asked) ∷ []
pieces_of shards (command.MetaArithmetic arithmetic) =
    asked_of shards arithmetic.asked.key (op.MetaCount arithmetic.asked) ∷ []
pieces_of shards (command.Discard key refusal) = asked_of shards key (op.Discard key) ∷ []
pieces_of shards command = []
