-- The counters of a server's threads, and their totals.
use Rattle.std.specs.Prelude.{ℕ, ◌≡◌, ◌-◌, Bool, List, [], ◌∷◌, map, length, Option, Some, None, option_map, slice_get}
use Rattle.std.specs.Prelude.{⊤}
use Rattle.std.specs.Arc.{arc_value}
use Rattle.std.specs.Int.{from_bool}
use Rattle.std.specs.List.{FoldsTo}
use Rattle.std.specs.declared.sync.Arc.{Arc}
use Rattle.crossbeam_utils.specs.Padded.{padded_value}
use Rattle.crossbeam_utils.specs.declared.cache_padded.CachePadded.{CachePadded}
use Rattle.mc_telemetry.specs.declared.counts.Counts.{Counts}
use Rattle.mc_telemetry.specs.declared.counts.EndCounts.{EndCounts}
use Rattle.mc_telemetry.specs.declared.counts.EndTotals.{EndTotals}
use Rattle.mc_telemetry.specs.declared.counts.AcceptorCounts.{AcceptorCounts}
use Rattle.mc_telemetry.specs.declared.counts.SeatCounts.{SeatCounts}
use Rattle.mc_telemetry.specs.declared.counts.Totals.{Totals}
use Rattle.mc_telemetry.specs.declared.event.Manner.{Manner}
use Rattle.mc_telemetry.specs.declared.event.Manner.TheVariants.{ByClient, Quit, LineTooLong, Binary, Http, Tls, Idle}
use Rattle.mc_telemetry.specs.declared.event.Manner.TheVariants.{ReadFailed, WriteFailed, NoMemory, ShutdownRequested}
use Rattle.mc_telemetry.specs.declared.event.Manner.TheVariants.{Shutdown}
use Rattle.mc_telemetry.specs.declared.shard_counts.ShardCounts.{ShardCounts}
use Rattle.mc_telemetry.specs.declared.shard_counts.ShardTotals.{ShardTotals}
use Rattle.mc_telemetry.specs.Told.{EachShown}
use Rattle.mc_telemetry.specs.Totals.{IsSummed, no_shards, shards_of_both, sum_of}

-- the value that threads share, padded to a cache line
abbrev pub shared_value : {X Z : Type 0} → Arc (CachePadded X) Z → X
shared_value shared = padded_value (arc_value shared)

-- the values that several share
abbrev pub shared_values : {X Z : Type 0} → List (Arc (CachePadded X) Z) → List X
shared_values all = map shared_value all

-- the number of shards with counters
abbrev pub shard_count : {C : Type 0} → Counts C → ℕ
shard_count counts = length counts.shards.items

-- the counters of each shard, by its number
abbrev pub shards_of : {C : Type 0} → Counts C → List (ShardCounts C)
shards_of counts = shared_values counts.shards.items

-- the counters of each serving thread, by its number
abbrev pub threads_of : {C : Type 0} → Counts C → List (SeatCounts C)
threads_of counts = shared_values counts.threads.items

-- the counters of the thread of this number, if there are any
abbrev pub thread_of : {C : Type 0} → Option (Counts C) → ℕ → Option (SeatCounts C)
thread_of None number = None
thread_of (Some counts) number = option_map shared_value (slice_get counts.threads.items number)

-- the counters of the accepting thread, if there are any
abbrev pub acceptor_of : {C : Type 0} → Option (Counts C) → Option (AcceptorCounts C)
acceptor_of None = None
acceptor_of (Some counts) = Some (shared_value counts.acceptor)

-- both have the same counters
pub record SameCounts {C : Type 0} (one other : Counts C) : Type 0 where
  pub acceptor : shared_value one.acceptor ≡ shared_value other.acceptor
  pub threads : threads_of one ≡ threads_of other
  pub shards : shards_of one ≡ shards_of other

module _ {C : Type 0} (added : C → ℕ → Type 0) where
  -- one more connection ended for this reason, if it is counted
  abbrev pub CountsManner : EndCounts C → Manner → Type 0
  CountsManner counts ByClient = ⊤
  CountsManner counts Quit = ⊤
  CountsManner counts LineTooLong = added counts.line_too_long 1
  CountsManner counts Binary = added counts.binary 1
  CountsManner counts Http = added counts.http 1
  CountsManner counts Tls = added counts.tls 1
  CountsManner counts Idle = added counts.idle 1
  CountsManner counts ReadFailed = added counts.failed 1
  CountsManner counts WriteFailed = added counts.failed 1
  CountsManner counts NoMemory = added counts.refused_memory 1
  CountsManner counts ShutdownRequested = ⊤
  CountsManner counts Shutdown = ⊤

  -- A connection ended for this reason, and failed or not; `counted` of its commands were counted before.
  pub record CountsEnd (counts : SeatCounts C) (counted commands : ℕ) (broke : Bool) (manner : Manner) : Type 0 where
    pub commands_are : added counts.commands (commands - counted)
    pub broken : added counts.broken (from_bool broke)
    pub ends : CountsManner counts.ends manner
    pub ended : added counts.ended 1

  -- an accepted connection ended unserved
  pub record CountsUnserved (counts : SeatCounts C) : Type 0 where
    pub broken : added counts.broken 1
    pub ended : added counts.ended 1

-- no connection has ended
abbrev pub no_ends : EndTotals
no_ends = record { binary = 0; http = 0; tls = 0; line_too_long = 0; idle = 0; failed = 0; refused_memory = 0 }

-- nothing was counted
abbrev pub no_totals : Totals
no_totals =
    record {
      accepted = 0;
      failed = 0;
      rejected = 0;
      ended = 0;
      broken = 0;
      commands = 0;
      read = 0;
      written = 0;
      ends = no_ends;
      shards = no_shards;
    }

module _ {C : Type 0} (told : C → ℕ → Type 0) where
  -- the value read from the counter is added
  pub record Adds (counter : C) (before after : ℕ) : Type 0 where
    pub count : ℕ
    pub is_told : told counter count
    pub sum : after ≡ sum_of before count

  -- the values read from a thread's counters of reasons are added
  pub record AddsEnds (before : EndTotals) (thread : EndCounts C) (after : EndTotals) : Type 0 where
    pub binary : Adds thread.binary before.binary after.binary
    pub http : Adds thread.http before.http after.http
    pub tls : Adds thread.tls before.tls after.tls
    pub line_too_long : Adds thread.line_too_long before.line_too_long after.line_too_long
    pub idle : Adds thread.idle before.idle after.idle
    pub failed : Adds thread.failed before.failed after.failed
    pub refused_memory : Adds thread.refused_memory before.refused_memory after.refused_memory

  -- the values read from a serving thread's counters are added; other counts are unchanged
  pub record AddsThread (before : Totals) (thread : SeatCounts C) (after : Totals) : Type 0 where
    pub ended : Adds thread.ended before.ended after.ended
    pub broken : Adds thread.broken before.broken after.broken
    pub commands : Adds thread.commands before.commands after.commands
    pub read : Adds thread.read before.read after.read
    pub written : Adds thread.written before.written after.written
    pub ends : AddsEnds before.ends thread.ends after.ends
    pub accepted : after.accepted ≡ before.accepted
    pub failed : after.failed ≡ before.failed
    pub rejected : after.rejected ≡ before.rejected
    pub shards : after.shards ≡ before.shards

  -- the totals of a shard are the values read from its own counters, and the number of all commands for which
  -- memory was refused
  pub record AreShown (shard : ShardCounts C) (totals : ShardTotals) : Type 0 where
    pub is_told : EachShown told shard totals
    pub summed : IsSummed totals

  -- the totals of each shard are those of its own counters
  abbrev pub EachIsShown : List (ShardCounts C) → List ShardTotals → Type 0
  EachIsShown [] [] = ⊤
  EachIsShown [] (totals ∷ rest) = ⊥
  EachIsShown (shard ∷ shards) [] = ⊥
  EachIsShown (shard ∷ shards) (totals ∷ rest) = AreShown shard totals × EachIsShown shards rest

  -- the totals of a shard are added
  pub record AddsShard (before : ShardTotals) (shard : ShardCounts C) (after : ShardTotals) : Type 0 where
    pub totals : ShardTotals
    pub are_shown : AreShown shard totals
    pub sum : after ≡ shards_of_both before totals

  -- the totals are the sum of the values read from all counters, of each thread and each shard in turn
  pub record AreTotals (counts : Counts C) (totals : Totals) : Type 0 where
    pub seats : Totals
    pub threads : FoldsTo AddsThread no_totals (threads_of counts) seats
    pub sums : totals ≡ record seats
        { accepted = totals.accepted; failed = totals.failed; rejected = totals.rejected; shards = totals.shards }
    pub accepted : told (shared_value counts.acceptor).accepted totals.accepted
    pub failed : told (shared_value counts.acceptor).failed totals.failed
    pub rejected : told (shared_value counts.acceptor).rejected totals.rejected
    pub shards : FoldsTo AddsShard no_shards (shards_of counts) totals.shards
