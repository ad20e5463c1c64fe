-- The pieces that are queued, by the parts of a queue.
use Rattle.std.specs.Prelude.{ℕ, ◌-◌, ◌<◌, List, [], ◌∷◌, ◌++◌, Option, Some, None, length}
use Rattle.std.specs.List.{flat_map}
use Rattle.mc_split.specs.Plan.{parts_from}
use Rattle.mc_split.specs.declared.plan.Piece.{Piece}
use Rattle.mc_split.specs.declared.queue.Entry.{Entry}
use Rattle.mc_split.specs.declared.queue.Entry.TheVariants.{Many, One}
use Rattle.mc_split.specs.declared.run.Asks.{Asks}
use Rattle.mc_split.specs.declared.run.Run.{Run}
use Rattle.mc_split.specs.declared.run.Run.TheVariants as run
use Rattle.mc_split.specs.internal.Left.{asks_from}
use Rattle.mc_split.specs.internal.ToAll.{op_of}

-- what the shards from the next one on are asked
abbrev pub asks_left : Asks → List (ℕ × Piece)
asks_left asks = let planner = asks.planner in
    parts_from asks.next planner.ticket planner.moment
    (asks_from (op_of asks.asked) asks.next (planner.shards - asks.next))

abbrev pub run_left : Run → List (ℕ × Piece)
run_left (run.Fetches fetches) = fetches
run_left (run.Asks asks) = asks_left asks

abbrev pub begun_left : Option Run → List (ℕ × Piece)
begun_left None = []
begun_left (Some one) = run_left one

abbrev pub pieces_in : Entry → List (ℕ × Piece)
pieces_in (One shard piece) = (shard, piece) ∷ []
pieces_in (Many one) = run_left one

-- all pieces of a queue
abbrev pub queued : Option Run → List Entry → List (ℕ × Piece)
queued begun entries = begun_left begun ++ flat_map pieces_in entries

-- An entry has at least one piece.
abbrev pub IsFilled : Entry → Type 0
IsFilled entry = 0 < length (pieces_in entry)

-- So has a run whose first piece was taken.
abbrev pub IsBegun : Option Run → Type 0
IsBegun None = Unit {0}
IsBegun (Some one) = 0 < length (run_left one)
