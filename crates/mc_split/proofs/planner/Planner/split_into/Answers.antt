-- The delay of a flush reaches its pieces as it is, since it fits its type.
use Rattle.std.proofs.Common.{w64, rules}
use Rattle.std.specs.Prelude.{FitsSigned}
use Rattle.std.proofs.lemmas.Int.{to_z-of_z}
use Rattle.mc_split.proofs.planner.Planner.split_into.Goals as goal

pub returns-in-FlushAll : goal.returns-in-FlushAll
returns-in-FlushAll c =
    let fits : FitsSigned w64 c.in-FlushAll.delay = search rules in
    rw (c.in-FlushAll.is, ← to_z-of_z w64 c.in-FlushAll.delay fits) c.flush_all.ensures
