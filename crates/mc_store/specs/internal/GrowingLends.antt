-- What a map that grows in parts ends as, once a reference into it has ended.
use Rattle.std.specs.Prelude.{ℕ, Bool, List, Option}
use Rattle.std.specs.Borrow.{Fml, LendsIf, MutBor}
use Rattle.mc_store.specs.declared.stored.Stored.{Stored}
use Rattle.mc_store.specs.contracts.stored.Stored as stored
use Rattle.mc_store.specs.contracts.growing.GrowingMap as growing
use Rattle.mc_store.specs.internal.Growing.{GrowingEntries, with_used}

-- it has the last value written through the reference under the key, as its first entry
abbrev pub LendsUsed : (List ℕ → Bool) → MutBor GrowingEntries → Option (MutBor Stored) → Fml
LendsUsed test map result = LendsIf growing.the_row stored.the_row map result (with_used test map.now) map.now
