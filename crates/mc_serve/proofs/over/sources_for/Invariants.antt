-- The sources made so far, then the lines that are left, of which none has begun.
use Rattle.std.proofs.Common.{◌≡◌, ◌++◌, map}
use Rattle.std.specs.List.{AllByRecursion}
use Rattle.std.specs.Vec.Iter.{into_iter_items}
use Rattle.mc_transport.specs.Place.{unbegun}
use Rattle.mc_net.specs.One.{flow_of, waits}
use Rattle.mc_serve.proofs.over.sources_for.Given as goal

abbrev pub invariant-loop-line : goal.invariant-loop-line
invariant-loop-line g l = record {
  flow :
      map (λ source. flow_of (λ line. g.L.Transport.sight line) source) l.sources.items
      ++ map (λ line. waits (g.L.Transport.sight line)) (into_iter_items l.line-iterator)
      ≡ map (λ line. waits (g.L.Transport.sight line)) l.fn.lines.items;
  new : AllByRecursion (λ line. g.L.Transport.place line ≡ unbegun l.history.name) (into_iter_items l.line-iterator);
  history : AllByRecursion (λ source. source.history.value.name ≡ l.history.name) l.sources.items;
}
