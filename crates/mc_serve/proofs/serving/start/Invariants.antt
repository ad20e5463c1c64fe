-- The slots of the parts started so far, then those that are left.
use Rattle.std.proofs.Common.{◌≡◌, ◌++◌, map}
use Rattle.std.specs.List.{AllByRecursion, flat_map}
use Rattle.std.specs.Vec.Iter.{into_iter_items}
use Rattle.mc_sizes.specs.Sizes.{rules_of}
use Rattle.mc_session.specs.Session.{seat_clerk, seat_ends}
use Rattle.mc_serve.specs.Recorded.{IsClerkOf}
use Rattle.mc_serve.specs.Seats.{IsNewSeat}
use Rattle.mc_serve.proofs.serving.start.Given as goal

abbrev pub invariant-loop-poller : goal.invariant-loop-poller
invariant-loop-poller g l = record {
  witness : l.left.witness ≡ l.fn.opening.witness;
  clerks : map (λ one. seat_clerk one.session)
      (flat_map (λ part. part.seats.all.items) l.thread_group ++ into_iter_items l.left.seats)
      ≡ l.fn.opening.clerks.items;
  fit : AllByRecursion (λ one. IsClerkOf l.fn.sizes (seat_ends one.session) (seat_clerk one.session))
      (flat_map (λ part. part.seats.all.items) l.thread_group ++ into_iter_items l.left.seats);
  sources : map (λ one. one.source)
      (flat_map (λ part. part.seats.all.items) l.thread_group ++ into_iter_items l.left.seats) ≡ l.fn.sources.items;
  same : AllByRecursion (λ part. (part.clock ≡ l.fn.clock) × (part.sizes ≡ l.fn.sizes)) l.thread_group;
  begin : AllByRecursion (λ one. IsNewSeat l.fn.sizes.shards (rules_of l.fn.sizes)
      (g.D.ConnectionSource.flow one.source) one.session one.slot_state) (into_iter_items l.left.seats);
}
