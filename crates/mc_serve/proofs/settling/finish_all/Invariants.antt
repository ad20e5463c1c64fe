-- The sources and the clerks taken so far, and the slots that are left.
use Rattle.std.proofs.Common.{◌≡◌, ◌++◌, map}
use Rattle.std.specs.List.{AllByRecursion}
use Rattle.std.specs.Vec.Iter.{into_iter_items}
use Rattle.mc_record.specs.Clerk.{IsSeatActor}
use Rattle.mc_session.specs.Routes.{AreOnRoutes}
use Rattle.mc_session.specs.Session.{seat_clerk, seat_ends}
use Rattle.mc_serve.specs.Recorded.{route_from}
use Rattle.mc_serve.proofs.settling.finish_all.Given as goal

abbrev pub invariant-loop-slot : goal.invariant-loop-slot
invariant-loop-slot g l = record {
  sources : l.sources.items ++ map (λ slot. slot.source) (into_iter_items l.slot-iterator)
      ≡ map (λ slot. slot.source) l.fn.slots.items;
  clerks : l.clerks.items ++ map (λ slot. seat_clerk slot.session) (into_iter_items l.slot-iterator)
      ≡ map (λ slot. seat_clerk slot.session) l.fn.slots.items;
  actors : AllByRecursion (λ slot. IsSeatActor (seat_clerk slot.session)) (into_iter_items l.slot-iterator)
      → AllByRecursion (λ slot. IsSeatActor (seat_clerk slot.session)) l.fn.slots.items;
  routes : AllByRecursion (λ slot. AreOnRoutes (route_from (seat_clerk slot.session)) (seat_ends slot.session))
      (into_iter_items l.slot-iterator)
      → AllByRecursion (λ slot. AreOnRoutes (route_from (seat_clerk slot.session)) (seat_ends slot.session))
      l.fn.slots.items;
}
