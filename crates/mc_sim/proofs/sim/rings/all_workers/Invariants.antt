use Rattle.std.specs.Prelude.{◌≡◌, ◌++◌, map}
use Rattle.std.specs.List.{AllByRecursion}
use Rattle.std.specs.Vec.Iter.{into_iter_items}
use Rattle.mc_sim.specs.Rings.{IsStarted, ends_of}
use Rattle.mc_sim.proofs.sim.rings.all_workers.Given as goal

abbrev pub invariant-loop-ends : goal.invariant-loop-ends
invariant-loop-ends g l = record {
  ends : map ends_of l.workers.items ++ into_iter_items l.ends-iterator ≡ l.fn.shards.items;
  started : AllByRecursion (IsStarted l.fn.sizes) l.workers.items;
}
