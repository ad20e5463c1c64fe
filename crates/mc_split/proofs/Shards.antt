-- Which shards the pieces of a command are for.
use Rattle.std.proofs.Common.{◌≡◌, ℕ, zero, suc, ◌+◌, ◌<◌, ◌≤◌, List, [], ◌∷◌, map, refl, arith, rules}
use Rattle.std.specs.Prelude.{IfSome, ℤ, Option}
use Rattle.std.specs.List.{AllByRecursion, range_with_len}
use Rattle.mc_wire.specs.Key.{place_of}
use Rattle.mc_command.specs.declared.command.Command.{Command}
use Rattle.mc_command.specs.declared.command.Command.TheVariants as command
use Rattle.mc_command.specs.declared.command.StatsRequest.TheVariants as request
use Rattle.mc_item.specs.declared.op.Op.{Op}
use Rattle.mc_item.specs.declared.op.Op.TheVariants as op
use Rattle.mc_item.specs.declared.answer.Kind.TheVariants.{Fetch}
use Rattle.mc_item.specs.Kind.{key_of, kind_of}
use Rattle.mc_split.specs.Pieces.{ShardOp, asked_of, pieces_of}
use Rattle.mc_split.specs.Plan.{pending_reply_kind}

-- what is asked of a shard
abbrev pub ask_of : Op → ℕ → ShardOp
ask_of op shard = record { shard = shard; op = op }

-- a piece is for the shard of its key, where it has one
abbrev NamesShard : ℕ → ShardOp → Type 0
NamesShard shards asked = IfSome (key_of asked.op) (λ key. asked.shard ≡ place_of key shards)

-- what holds of all that is made holds of each of a list of them
every-map : {X Y : Type 0} (P : Y → Type 0) (f : X → Y) → ((x : X) → P (f x)) → (xs : List X)
    → AllByRecursion P (map f xs)
every-map P f holds [] = tt
every-map P f holds (x ∷ xs) = (holds x, every-map P f holds xs)

-- each piece names the shard of the key that it asks for
pub pieces_name : (shards : ℕ) (command : Command) → AllByRecursion (NamesShard shards) (pieces_of shards command)
unfolding key_of pieces_of
pieces_name shards (command.Get retrieval) =
    every-map (NamesShard shards) (λ (key : List ℕ). asked_of shards key (op.Fetch key retrieval.touch)) (λ key. refl)
    retrieval.keys
pieces_name shards (command.FlushAll delay noreply) =
    every-map (NamesShard shards) (ask_of (op.Flush delay)) (λ shard. tt) (range_with_len 0 shards)
pieces_name shards (command.Stats request.General) =
    every-map (NamesShard shards) (ask_of op.Stats) (λ shard. tt) (range_with_len 0 shards)
pieces_name shards (command.Stats request.Reset) =
    every-map (NamesShard shards) (ask_of op.ResetStats) (λ shard. tt) (range_with_len 0 shards)
pieces_name shards other = search rules

place_within : (key : List ℕ) (shards : ℕ) → 0 < shards → place_of key shards < shards
place_within key shards some = omega arith

asks_within : (shards first count : ℕ) (op : Op) → first + count ≤ shards
    → AllByRecursion (λ (asked : ShardOp). asked.shard < shards) (map (ask_of op) (range_with_len first count))
asks_within shards first zero op within = tt
asks_within shards first (suc count) op within = (omega arith, asks_within shards (first + 1) count op (omega arith))

-- each shard that is asked is there
pub pieces_within : (shards : ℕ) → 0 < shards → (command : Command)
    → AllByRecursion (λ (asked : ShardOp). asked.shard < shards) (pieces_of shards command)
unfolding pieces_of
pieces_within shards some (command.Get retrieval) =
    every-map (λ (asked : ShardOp). asked.shard < shards)
    (λ (key : List ℕ). asked_of shards key (op.Fetch key retrieval.touch)) (λ key. place_within key shards some)
    retrieval.keys
pieces_within shards some (command.FlushAll delay noreply) = asks_within shards 0 shards (op.Flush delay) (omega arith)
pieces_within shards some (command.Stats request.General) = asks_within shards 0 shards op.Stats (omega arith)
pieces_within shards some (command.Stats request.Reset) = asks_within shards 0 shards op.ResetStats (omega arith)
pieces_within shards some other = search (rules, place_within)

-- the kind of what every shard is asked, and of the pieces of a get
pub asks_kind : (first count : ℕ) (op : Op) → 0 < count → kind_of op
    ≡ pending_reply_kind (map (ask_of op) (range_with_len first count))
asks_kind first zero op some = absurd (omega arith)
asks_kind first (suc count) op some = refl

-- The pending reply of a get of one key or more awaits answers to fetches.
pub gets_kind : (shards : ℕ) (touch : Option ℤ) (first : List ℕ) (keys : List (List ℕ)) → Fetch
    ≡ pending_reply_kind (map (λ key. asked_of shards key (op.Fetch key touch)) (first ∷ keys))
unfolding kind_of
gets_kind shards touch first keys = refl

-- All of these pieces are of the first one's kind.
abbrev AreAlike : List ShardOp → Type 0
AreAlike asked = AllByRecursion (λ one. kind_of one.op ≡ pending_reply_kind asked) asked

gets_alike : (shards : ℕ) (touch : Option ℤ) (keys : List (List ℕ))
    → AreAlike (map (λ key. asked_of shards key (op.Fetch key touch)) keys)
unfolding kind_of
gets_alike shards touch [] = tt
gets_alike shards touch (key ∷ keys) =
    every-map (λ (one : ShardOp). kind_of one.op ≡ Fetch) (λ (key : List ℕ). asked_of shards key (op.Fetch key touch))
    (λ key. refl) (key ∷ keys)

asks_alike : (shards : ℕ) (op : Op) → AreAlike (map (ask_of op) (range_with_len 0 shards))
asks_alike zero op = tt
asks_alike (suc shards) op =
    every-map (λ (one : ShardOp). kind_of one.op ≡ kind_of op) (ask_of op) (λ shard. refl)
    (range_with_len 0 (suc shards))

-- all pieces of a command are of one kind
pub pieces_alike : (shards : ℕ) (command : Command) → AreAlike (pieces_of shards command)
unfolding pieces_of kind_of
pieces_alike shards (command.Get retrieval) = gets_alike shards retrieval.touch retrieval.keys
pieces_alike shards (command.FlushAll delay noreply) = asks_alike shards (op.Flush delay)
pieces_alike shards (command.Stats request.General) = asks_alike shards op.Stats
pieces_alike shards (command.Stats request.Reset) = asks_alike shards op.ResetStats
pieces_alike shards other = search rules
