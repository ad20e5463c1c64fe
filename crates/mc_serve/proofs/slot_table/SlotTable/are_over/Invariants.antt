-- The slots looked at so far are over.
use Rattle.std.proofs.Common.{◌≡◌, length, take}
use Rattle.std.specs.List.{AllByRecursion}
use Rattle.mc_serve.specs.declared.connection_slot.SlotState.TheVariants as slot_state
use Rattle.mc_serve.proofs.slot_table.SlotTable.are_over.Given as goal

abbrev pub invariant-loop-place : goal.invariant-loop-place
invariant-loop-place g l = record {
  last : l.place-end ≡ length l.fn.self.all.items;
  over : AllByRecursion (λ one. one.slot_state ≡ slot_state.Over) (take l.place l.fn.self.all.items);
}
