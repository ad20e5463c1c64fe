-- What a piece counts as, and what its answer does, as memcached counts them (protocol.txt, "General-purpose
-- statistics").
use Rattle.std.specs.Prelude.{ℕ, ◌+◌, ◌*◌, ◌^◌, ◌%◌, Bool, true, false, ◌&&◌, not, Option, replicate, slice_index}
use Rattle.std.specs.Prelude.{slice_set, if◌then◌else◌}
use Rattle.std.specs.Option.{is_some}
use denote.Enum.Declared.{tag_of}
use Rattle.mc_command.specs.declared.command.Direction.{Direction}
use Rattle.mc_command.specs.declared.command.Direction.TheVariants as direction
use Rattle.mc_command.specs.declared.command.StoreMode.{StoreMode}
use Rattle.mc_command.specs.declared.command.StoreMode.TheVariants as mode
use Rattle.mc_item.specs.declared.answer.Answer.{Answer}
use Rattle.mc_item.specs.declared.answer.Answer.TheVariants as answer
use Rattle.mc_item.specs.declared.op.Op.{Op}
use Rattle.mc_item.specs.declared.op.Op.TheVariants as op
use Rattle.mc_item.specs.declared.op_stats.StatClass.{StatClass}
use Rattle.mc_item.specs.declared.op_stats.StatClass.TheVariants as asked
use Rattle.mc_item.specs.declared.op_stats.Counting.{Counting}
use Rattle.mc_item.specs.declared.op_stats.Status.{Status}
use Rattle.mc_item.specs.declared.op_stats.Status.TheVariants as status
use Rattle.mc_item.specs.declared.op_stats.OpStats.{OpStats}
use Rattle.mc_item.specs.contracts.op_stats.StatClass.{the_type as kinds}
use Rattle.mc_item.specs.contracts.op_stats.Status.{the_type as statuses}

-- what counts as one kind, whatever comes of it
abbrev pub always : StatClass → Counting
always kind = record { found = kind; missed = kind; made = false }

abbrev pub kind_of_direction : Direction → StatClass
kind_of_direction direction.Increment = asked.Incr
kind_of_direction direction.Decrement = asked.Decr

-- a mode joins values
abbrev pub joins_values : StoreMode → Bool
joins_values mode.Append = true
joins_values mode.Prepend = true
joins_values mode = false

-- a storage command: with a unique as `cas`, but not where `ms` joins values
abbrev pub kind_of_store : Option ℕ → Bool → StatClass
kind_of_store compare joins = if is_some compare && not joins then asked.Cas else asked.Set

abbrev pub kind_of_fetch : Bool → StatClass
kind_of_fetch touches = if touches then asked.Touch else asked.Get

-- What a piece counts as. One that all shards are asked counts on the first of them alone. What makes an item of a miss
-- (the flag `N`) is counted as that; `ma` is then counted as nothing else, and `mg` as a hit. `mg` with `T` is a touch
-- where it hits, and a get where it misses. What drops an item for too large a value
-- is counted as that, and to mark an item stale as nothing.
unfoldable pub counting_of : Bool → Bool → Op → Counting
counting_of first makes (op.Store asked) = always (kind_of_store asked.compare false)
counting_of first makes (op.Fetch key touch) = always (kind_of_fetch (is_some touch))
counting_of first makes (op.Count key direction amount) = always (kind_of_direction direction)
counting_of first makes (op.Delete key) = always asked.Delete
counting_of first makes (op.Discard key) = always asked.TooLarge
counting_of first makes (op.Touch key exptime) = always asked.Touch
counting_of first makes (op.Flush delay) = always (if first then asked.Flush else asked.Other)
counting_of first makes op.Stats = always asked.Other
counting_of first makes op.ResetStats = always asked.Other
counting_of first makes (op.MetaGet get) =
    record { found = kind_of_fetch (is_some get.touch); missed = asked.Get; made = makes }
counting_of first makes (op.MetaStore store) = always (kind_of_store store.compare (joins_values store.mode))
counting_of first makes (op.MetaDelete delete) =
    record { found = if delete.invalidate then asked.Other else asked.Delete; missed = asked.Delete; made = false }
counting_of first makes (op.MetaCount count) =
    record {
      found = if makes then asked.Other else kind_of_direction count.direction;
      missed = kind_of_direction count.direction;
      made = makes;
    }

-- what an answer says of it
unfoldable pub status_of : Answer → Status
status_of answer.NotStored = status.Miss
status_of answer.NotFound = status.Miss
status_of answer.Miss = status.Miss
status_of answer.Exists = status.BadValue
status_of answer.NoMemory = status.NoMemory
status_of answer.TooLarge = status.Refused
status_of answer.NoCas = status.Refused
status_of answer.NonNumeric = status.Refused
status_of _ = status.Hit

-- nothing was counted: all 60 counters, one for each kind and status, are 0
abbrev pub no_counts : OpStats
no_counts = record { counts = replicate 60 0 }

-- the counter of a kind and a status, by the places of both in the order in which they are declared
abbrev pub counter : StatClass → Status → ℕ
counter asked status = tag_of kinds asked * 5 + tag_of statuses status

-- how often this was asked and came to that
abbrev pub counted : OpStats → StatClass → Status → ℕ
counted op_stats asked status = slice_index op_stats.counts (counter asked status)

-- the counts where this was asked once more and came to that, and no other changed; a count starts again after 2^64 - 1
abbrev pub noted : OpStats → StatClass → Status → OpStats
noted op_stats asked status =
    record op_stats {
      counts = slice_set op_stats.counts (counter asked status)
          ((counted op_stats asked status + 1) % (2 ^ 64));
    }

-- the kind that is counted, by what came of it
abbrev pub kind_met : Counting → Status → StatClass
kind_met counting status.Miss = counting.missed
kind_met counting status.BadValue = counting.missed
kind_met counting status = counting.found

-- the counts where that was asked and came to that: an item that was made of a miss is counted beside it
abbrev pub counted_in : OpStats → Counting → Status → OpStats
counted_in op_stats counting came =
    if counting.made then noted (noted op_stats (kind_met counting came) came) asked.Made came else noted op_stats
    (kind_met counting came) came

-- the counts where a dead item gave its room back, which was fetched since it was stored or wasn't
abbrev pub reclaimed_in : OpStats → Bool → OpStats
reclaimed_in op_stats fetched = noted op_stats asked.Reclaimed (if fetched then status.Hit else status.Miss)
