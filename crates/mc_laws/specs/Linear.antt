-- Linearizability: for each key there is one order of all operations on it.
use Rattle.std.specs.Prelude.{ℕ, ◌≡◌, IfSome, List}
use Rattle.std.specs.List.{AllByRecursion}
use Rattle.mc_wire.specs.Key.{place_of}
use Rattle.mc_sizes.specs.declared.sizes.Sizes.{Sizes}
use Rattle.mc_item.specs.Kind.{key_of}
use Rattle.mc_store.specs.State.{State}
use Rattle.mc_model.specs.Sized.{empty_shard}
use Rattle.mc_model.specs.Log.{Entry, Run, on_shard}
use Rattle.mc_model.specs.World.{World}
use Rattle.mc_model.specs.Events.{Event}
use Rattle.mc_model.specs.Schedule.{Schedule}
use Rattle.mc_model.specs.Headline.{AreReplies, RanAsDue, OfEach}
use Rattle.mc_laws.specs.Order.{HappensBefore, IsHandedOut, RunsBefore, WasRun}

-- the operations of the key's shard, in order, for all connections
abbrev pub order_of : Sizes → World → List ℕ → List Entry
order_of sizes w key = on_shard (place_of key sizes.shards) w.log

-- An entry for a key is of the key's shard.
abbrev pub IsAtHome : Sizes → Entry → Type 0
IsAtHome sizes entry = IfSome (key_of entry.piece.op) (λ key. entry.shard ≡ place_of key sizes.shards)

-- Linearizability of one key. The operations that its shard ran are one sequential order, in which each
-- answer is the protocol's step after all earlier ones. Each connection's operations are in it once and in
-- sending order, what happened before in time is before, and the clients' replies are made of these answers.
pub record IsLinearizable (sizes : Sizes) (events : List Event) (w : World) (led : Schedule sizes events w)
    (key : List ℕ) : Type 0 where
  -- no other shard ran an operation on the key
  pub one_order : AllByRecursion (IsAtHome sizes) w.log
  -- the order is one run of the protocol's step, from the empty shard
  pub lawful : (last : State) × Run (empty_shard sizes (place_of key sizes.shards)) (order_of sizes w key) last
  -- the operations that a shard ran for a connection are a prefix of those due there, in sending order
  pub own_order : OfEach w (λ k link. RanAsDue sizes w k link)
  -- each piece of a command whose reply was written is in the order of its shard
  pub complete : (k number : ℕ) → IsHandedOut w k number → WasRun sizes w k number
  -- if one reply was written before another command was sent, the former is before the latter
  pub order_in_time : (j a k b : ℕ) → HappensBefore sizes events w led j a k b
      → RunsBefore (order_of sizes w key) j a k b
  -- the bytes written are the replies made of these answers
  pub replies : OfEach w (λ k link. AreReplies sizes w k link)
