use Rattle.std.proofs.Common.{◌≡◌}
use Rattle.mc_store.specs.internal.Growing.{entries_of}
use Rattle.mc_store.proofs.growing.GrowingMap.move_some.Given as goal

-- The items and their order stay the same.
abbrev pub invariant-loop : goal.invariant-loop
invariant-loop l = (entries_of l.self ≡ entries_of l.fn.self) × (l.self.cap ≡ l.fn.self.cap)
