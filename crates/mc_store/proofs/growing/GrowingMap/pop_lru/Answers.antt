use Rattle.std.proofs.Common.{refl, sym, ◌∙◌}
use Rattle.mc_store.proofs.TwoLists.{without_last}
use Rattle.mc_store.proofs.growing.GrowingMap.pop_lru.Goals as goal

pub returns-clause-entries : goal.returns-clause-entries
returns-clause-entries c =
    rw (
      c.pop_lru-2.ensures.entries,
      ← c.self.view_is,
      without_last c.self.inside.recent.entries c.self.inside.older.entries
          (sym c.if-is_empty.false ∙ c.is_empty.ensures),
    ) refl
