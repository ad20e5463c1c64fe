-- The slots made so far, then the ends, the clerks and the sources that are left: as many of each.
use Rattle.std.proofs.Common.{◌≡◌, ◌++◌, length, map}
use Rattle.std.specs.List.{AllByRecursion}
use Rattle.std.specs.Vec.Iter.{into_iter_items}
use Rattle.mc_sizes.specs.Sizes.{rules_of}
use Rattle.mc_poll.specs.Zips.{Zips}
use Rattle.mc_serve.specs.Recorded.{IsClerkOf}
use Rattle.mc_serve.specs.Seats.{IsNewSeat}
use Rattle.mc_net.specs.Flow.{IsFree}
use Rattle.mc_session.specs.Session.{seat_clerk, seat_ends}
use Rattle.mc_serve.proofs.serving.make_slots.Given as goal

abbrev pub invariant-loop-ends : goal.invariant-loop-ends
invariant-loop-ends g l = record {
  width : AllByRecursion (λ seat. length seat.channels ≡ l.fn.sizes.shards) (into_iter_items l.ends-iterator);
  clerks : Zips (IsClerkOf l.fn.sizes) (into_iter_items l.ends-iterator) (into_iter_items l.clerks);
  history : Zips (λ source clerk. g.D.ConnectionSource.history source ≡ clerk.name) (into_iter_items l.sources)
      (into_iter_items l.clerks);
  as_many : length (into_iter_items l.sources) ≡ length (into_iter_items l.ends-iterator);
  free : AllByRecursion (λ source. IsFree (g.D.ConnectionSource.flow source)) (into_iter_items l.sources);
  clerks_are : map (λ one. seat_clerk one.session) l.seats.items ++ into_iter_items l.clerks ≡ l.fn.clerks.items;
  fit : AllByRecursion (λ one. IsClerkOf l.fn.sizes (seat_ends one.session) (seat_clerk one.session)) l.seats.items;
  sources : map (λ one. one.source) l.seats.items ++ into_iter_items l.sources ≡ l.fn.sources.items;
  begin : AllByRecursion (λ one. IsNewSeat l.fn.sizes.shards (rules_of l.fn.sizes)
      (g.D.ConnectionSource.flow one.source) one.session one.slot_state) l.seats.items;
}
