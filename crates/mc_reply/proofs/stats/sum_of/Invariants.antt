-- The sum of the slots so far.
use Rattle.std.proofs.Common.{◌≡◌, take}
use Rattle.std.specs.Prelude.{◌%◌, ◌^◌}
use Rattle.std.specs.List.{sum_by}
use Rattle.mc_reply.specs.internal.SlotTexts.{slot_stat}
use Rattle.mc_reply.proofs.stats.sum_of.Given as goal

abbrev pub invariant-loop-slot : goal.invariant-loop-slot
invariant-loop-slot l = l.sum ≡ sum_by (slot_stat l.stat) (take l.slot-index l.slots) % 2 ^ 64
