-- The workers made so far, then the ends and the scribes that are left: as many of each.
use Rattle.std.proofs.Common.{◌≡◌, ◌++◌, map}
use Rattle.std.specs.List.{AllByRecursion}
use Rattle.std.specs.Vec.Iter.{into_iter_items}
use Rattle.mc_poll.specs.Zips.{Zips}
use Rattle.mc_session.specs.Workers.{AreFresh, IsFresh, IsRecordOf, ends_of}
use Rattle.mc_session.proofs.workers.make_recorded_workers.Given as goal

abbrev pub invariant-loop-ends : goal.invariant-loop-ends
invariant-loop-ends g l = record {
  left : AllByRecursion (AreFresh l.fn.sizes.shards) (into_iter_items l.ends-iterator);
  records : Zips (λ ends scribe. g.S.Scribe.keeps scribe
      → IsRecordOf l.fn.sizes ends (g.S.Scribe.route scribe) (g.S.Scribe.begin scribe) (g.S.Scribe.log scribe))
      (into_iter_items l.ends-iterator) (into_iter_items l.scribes);
  order : map ends_of l.workers.items ++ into_iter_items l.ends-iterator ≡ l.fn.ends.items;
  fresh : AllByRecursion (IsFresh l.fn.sizes) l.workers.items;
}
