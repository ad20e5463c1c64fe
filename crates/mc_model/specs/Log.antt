-- The log: the operations that shards ran, for which connections, and when that is lawful.
use Rattle.std.specs.Prelude.{ℕ, ◌≡◌, ◌<◌, ◌==◌, List, [], ◌∷◌, filter, map}
use Rattle.mc_sizes.specs.declared.sizes.Sizes.{Sizes}
use Rattle.mc_item.specs.declared.answer.Answer.{Answer}
use Rattle.mc_item.specs.Kind.{kind_of}
use Rattle.mc_ring.specs.Reply.{Shown}
use Rattle.mc_split.specs.declared.plan.Piece.{Piece}
use Rattle.mc_store.specs.State.{State}
use Rattle.mc_store.specs.Step.{IsStep}
use Rattle.mc_model.specs.Sized.{empty_shard}

-- an operation of a shard: it ran a piece, which has a ticket, part, operation and time, for a connection,
-- with this answer
pub record Entry : Type 0 where
  pub shard : ℕ
  -- the number of the connection
  pub asker : ℕ
  pub piece : Piece
  pub answer : Answer

-- the operations of a shard, in order, for all connections
abbrev pub on_shard : ℕ → List Entry → List Entry
on_shard shard log = filter (λ entry. entry.shard == shard) log

-- the operations for a connection, in order, on all shards
abbrev pub of_asker : ℕ → List Entry → List Entry
of_asker asker log = filter (λ entry. entry.asker == asker) log

abbrev pub pieces_in : List Entry → List Piece
pieces_in log = map (λ entry. entry.piece) log

-- the reply to an entry's piece
abbrev pub reply_to : Entry → Shown
reply_to entry =
    record {
      ticket = entry.piece.ticket;
      part = entry.piece.part;
      kind = kind_of entry.piece.op;
      answer = entry.answer;
    }

abbrev pub replies_in : List Entry → List Shown
replies_in log = map reply_to log

-- A shard may run these operations one after another, each by the protocol's step.
abbrev pub Run : State → List Entry → State → Type 0
Run old [] new = new ≡ old
Run old (entry ∷ log) new =
    (mid : State) × IsStep old entry.piece.op entry.piece.moment entry.answer mid × Run mid log new

-- The shard is in this state after the log.
abbrev pub Leaves : Sizes → ℕ → List Entry → State → Type 0
Leaves sizes shard log state = Run (empty_shard sizes shard) (on_shard shard log) state

-- The operations of each shard, for all connections together, are one run from the empty state, in which no
-- unique was assigned.
abbrev pub IsLawful : Sizes → List Entry → Type 0
IsLawful sizes log = (shard : ℕ) → shard < sizes.shards → (last : State) × Leaves sizes shard log last
