use Rattle.std.proofs.Common.{◌≡◌, length}
use Rattle.mc_store.proofs.Listed.{Evicting}
use Rattle.mc_store.proofs.items.evict.Given as goal

abbrev pub invariant-loop-left : goal.invariant-loop-left
invariant-loop-left l =
    Evicting l.initial.cache.entries l.cache.entries l.budget l.left
    × (l.cache ≡ record l.initial.cache { entries = l.cache.entries }) × (l.budget ≡ l.initial.cache.budget)

abbrev pub decreases-loop-left : goal.decreases-loop-left
decreases-loop-left l = length l.cache.entries
