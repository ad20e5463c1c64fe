-- The lines placed so far, none of which has begun, and those that are left.
use Rattle.std.proofs.Common.{◌≡◌, ◌+◌, length}
use Rattle.std.specs.List.{AllByRecursion}
use Rattle.std.specs.Vec.Iter.{into_iter_items}
use Rattle.mc_transport.specs.Place.{bytes_seen, place_by, unbegun}
use Rattle.mc_history.specs.Places.{place_in}
use Rattle.mc_trials.proofs.server.placed.Given as goal

abbrev pub invariant-loop-line : goal.invariant-loop-line
invariant-loop-line g l = record {
  as_many : length l.placed.items + length (into_iter_items l.line-iterator) ≡ length l.fn.lines.items;
  new : AllByRecursion (λ line. place_by place_in line.history.value.name line.seen.value
      (bytes_seen (g.L.Transport.sight line.begin.value)) ≡ unbegun l.fn.history.name) l.placed.items;
}
