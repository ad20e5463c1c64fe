-- The sources made so far, of one history, then the arrivals that are left.
use Rattle.std.proofs.Common.{◌≡◌, ◌++◌, map}
use Rattle.std.specs.List.{AllByRecursion}
use Rattle.std.specs.Vec.Iter.{into_iter_items}
use Rattle.mc_command.specs.Rules.{is_drop_in}
use Rattle.mc_sizes.specs.Sizes.{rules_of}
use Rattle.mc_net.specs.Tcp.{new_source, flow_source}
use Rattle.mc_serve.proofs.streams.sources_for.Given as goal

abbrev pub invariant-loop-one : goal.invariant-loop-one
invariant-loop-one g l = record {
  flow :
      map (λ source. flow_source (g.A.Arrivals.coming source.arrivals) source.out source.gone.items source.is_over)
      l.sources.items
      ++ map (λ one. new_source g.A.Stream.Stream.remaining g.A.Stream.Stream.contents (g.A.Arrivals.coming one))
      (into_iter_items l.one-iterator)
      ≡ map (λ one. new_source g.A.Stream.Stream.remaining g.A.Stream.Stream.contents (g.A.Arrivals.coming one))
      l.fn.arrivals.items;
  opening : l.opening ≡ l.fn.opening;
  history : AllByRecursion (λ source. source.history.name ≡ l.fn.opening.witness.name) l.sources.items;
  sniffs_protocol : l.sniffs_protocol ≡ is_drop_in (rules_of l.fn.sizes);
  sniff_protocol : AllByRecursion (λ source. source.sniffs_protocol ≡ is_drop_in (rules_of l.fn.sizes)) l.sources.items;
}
