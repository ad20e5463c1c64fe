-- The connections counted and listed so far, and those of the sources that are left.
use Rattle.std.proofs.Common.{◌≡◌, ◌+◌, ◌-◌, ◌^◌, ◌≤◌, ◌++◌, min, map}
use Rattle.std.specs.Vec.Iter.{into_iter_items}
use Rattle.mc_net.specs.Tcp.{gone_count, flow_source}
use Rattle.mc_serve.proofs.streams.gather.Given as goal

abbrev pub invariant-loop-source : goal.invariant-loop-source
invariant-loop-source g l = record {
  within : l.ended ≤ 2 ^ 64 - 1;
  counted :
      min (l.ended + gone_count
      (map (λ source. flow_source (g.A.Arrivals.coming source.arrivals) source.out source.gone.items source.is_over)
      (into_iter_items l.source-iterator))) (2 ^ 64 - 1)
      ≡ min (gone_count (map (λ source. flow_source (g.A.Arrivals.coming source.arrivals) source.out source.gone.items
      source.is_over) l.fn.sources.items)) (2 ^ 64 - 1);
  listed : map (λ seat. seat.0.items) l.seats.items
      ++ map (λ source. source.gone.items) (into_iter_items l.source-iterator)
      ≡ map (λ source. source.gone.items) l.fn.sources.items;
}
