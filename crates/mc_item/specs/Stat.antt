-- The numbers that `stats` shows (protocol.txt, "General-purpose statistics").
use Rattle.std.specs.Prelude.{ℕ, ◌+◌, List, [], ◌∷◌, codes}
use Rattle.mc_item.specs.declared.stat.Stat.{Stat}
use Rattle.mc_item.specs.declared.stat.Stat.TheVariants as stat
use Rattle.mc_item.specs.declared.stats.Stats.{Stats}
use Rattle.mc_item.specs.declared.op_stats.StatClass.{StatClass}
use Rattle.mc_item.specs.declared.op_stats.StatClass.TheVariants as asked
use Rattle.mc_item.specs.declared.op_stats.Status.{Status}
use Rattle.mc_item.specs.declared.op_stats.Status.TheVariants as status
use Rattle.mc_item.specs.OpStats.{counted}

-- how often this was asked and came to that
abbrev pub came_to : Status → StatClass → Stats → ℕ
came_to status asked stats = counted stats.op_stats asked status

-- how often this was asked, whatever came of it
abbrev pub total : StatClass → Stats → ℕ
total asked stats =
    came_to status.Hit asked stats + came_to status.Miss asked stats + came_to status.BadValue asked stats + came_to
    status.NoMemory asked stats + came_to status.Refused asked stats

-- its name, and what it is of a shard
abbrev pub row_of : Stat → List ℕ × (Stats → ℕ)
row_of stat.CmdGet = (codes "cmd_get", total asked.Get)
row_of stat.CmdSet = (codes "cmd_set", λ stats. total asked.Set stats + total asked.Cas stats)
row_of stat.CmdFlush = (codes "cmd_flush", total asked.Flush)
row_of stat.CmdTouch = (codes "cmd_touch", total asked.Touch)
row_of stat.GetHits = (codes "get_hits", came_to status.Hit asked.Get)
row_of stat.GetMisses = (codes "get_misses", came_to status.Miss asked.Get)
row_of stat.DeleteMisses = (
  codes "delete_misses",
  λ stats. came_to status.Miss asked.Delete stats + came_to status.BadValue asked.Delete
      stats,
)
row_of stat.DeleteHits = (codes "delete_hits", came_to status.Hit asked.Delete)
row_of stat.IncrMisses = (codes "incr_misses", came_to status.Miss asked.Incr)
row_of stat.IncrHits = (codes "incr_hits", came_to status.Hit asked.Incr)
row_of stat.DecrMisses = (codes "decr_misses", came_to status.Miss asked.Decr)
row_of stat.DecrHits = (codes "decr_hits", came_to status.Hit asked.Decr)
row_of stat.CasMisses = (codes "cas_misses", came_to status.Miss asked.Cas)
row_of stat.CasHits = (codes "cas_hits", came_to status.Hit asked.Cas)
row_of stat.CasBadval = (codes "cas_badval", came_to status.BadValue asked.Cas)
row_of stat.TouchHits = (codes "touch_hits", came_to status.Hit asked.Touch)
row_of stat.TouchMisses = (codes "touch_misses", came_to status.Miss asked.Touch)
row_of stat.StoreTooLarge = (codes "store_too_large", total asked.TooLarge)
row_of stat.LimitMaxbytes = (codes "limit_maxbytes", λ stats. stats.budget)
row_of stat.Bytes = (codes "bytes", λ stats. stats.bytes)
row_of stat.CurrItems = (codes "curr_items", λ stats. stats.items)
row_of stat.TotalItems = (
  codes "total_items",
  λ stats. came_to status.Hit asked.Set stats + came_to status.Hit asked.Cas stats + came_to
      status.Hit asked.Made stats,
)
row_of stat.ExpiredUnfetched = (codes "expired_unfetched", came_to status.Miss asked.Reclaimed)
row_of stat.Evictions = (codes "evictions", λ stats. stats.evicted)
row_of stat.Reclaimed = (codes "reclaimed", total asked.Reclaimed)

-- all of them, in the order in which they are shown
abbrev pub all_stats : List Stat
all_stats =
    stat.CmdGet ∷ stat.CmdSet ∷ stat.CmdFlush ∷ stat.CmdTouch ∷ stat.GetHits ∷ stat.GetMisses ∷ stat.DeleteMisses ∷
    stat.DeleteHits ∷ stat.IncrMisses ∷ stat.IncrHits
    ∷ stat.DecrMisses ∷ stat.DecrHits ∷ stat.CasMisses ∷ stat.CasHits ∷ stat.CasBadval ∷ stat.TouchHits ∷
    stat.TouchMisses
    ∷ stat.StoreTooLarge ∷ stat.LimitMaxbytes ∷ stat.Bytes ∷ stat.CurrItems ∷ stat.TotalItems ∷ stat.ExpiredUnfetched ∷
    stat.Evictions ∷ stat.Reclaimed
    ∷ []
