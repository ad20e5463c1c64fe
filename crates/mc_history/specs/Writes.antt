-- What may be written to a line at a moment, by the one history of all connections.
use Rattle.std.specs.Prelude.{ℕ, ◌≡◌, ◌<◌, List, ◌++◌, length, map}
use Rattle.std.specs.List.{AllByRecursion, concat}
use Rattle.mc_wire.specs.Sink.{Sight, with_bytes}
use Rattle.mc_sizes.specs.Sizes.{rules_of}
use Rattle.mc_sizes.specs.declared.sizes.Sizes.{Sizes}
use Rattle.mc_reader.specs.Spelling.{BeginCommands}
use Rattle.mc_conn.specs.History.{MayBeTaken, Taken, carried_out}
use Rattle.mc_conn.specs.Flow.{commands_of}
use Rattle.mc_model.specs.Log.{IsLawful}
use Rattle.mc_model.specs.Headline.{RanAsDue, replies_to}
use Rattle.mc_history.specs.declared.event.Event.{Event}
use Rattle.mc_history.specs.Worlds.{link_in, ran_in, seats_in, taken_in, world_in}

-- These bytes may be written now to the line of the connection of this number. What is seen of the line was so at its
-- beginning, and is so now. The history is that of all connections up to now, of a server of these sizes.
pub record MayWrite (sizes : Sizes) (number : ℕ) (begin now : Sight) (bytes : List ℕ) (history : List Event) : Type 0
  where
    -- What each shard ran is one run of the protocol's step from the empty shard.
    pub lawful : IsLawful sizes (ran_in history)
    -- Each shard ran each connection's pieces once, in sending order,
    pub once : (k : ℕ) → RanAsDue sizes (world_in history) k (link_in k history)
    -- and it ran nothing else.
    pub owned : AllByRecursion (λ entry. (entry.shard < sizes.shards) × (entry.asker < length (seats_in history)))
        (ran_in history)
    -- the bytes read of the line since its beginning, and those written to it
    pub read : List ℕ
    pub written : List ℕ
    pub read_is : now.given ≡ with_bytes begin.given read
    pub written_is : now.taken ≡ with_bytes begin.taken written
    -- The connection took the first commands that the bytes read spell. Nothing follows `quit`.
    pub taken : List Taken
    pub covers : BeginCommands (rules_of sizes) read (commands_of taken)
    -- One of them was given up only where it may be; the history has the refusal in its place.
    pub may : AllByRecursion MayBeTaken taken
    pub recorded : taken_in number history ≡ map carried_out taken
    -- The replies to them begin with what was written and then these bytes. Their answers are those of the history.
    pub rest : List ℕ
    pub next : written ++ (bytes ++ rest) ≡ concat (replies_to sizes (world_in history) number (link_in number history))
