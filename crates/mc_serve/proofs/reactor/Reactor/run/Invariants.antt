-- The slots are as they began, some steps further.
use Rattle.std.proofs.Common.{◌≡◌, map}
use Rattle.mc_sizes.specs.Sizes.{rules_of}
use Rattle.mc_poll.specs.Zips.{Zips}
use Rattle.mc_session.specs.Session.{seat_clerk, seat_ends}
use Rattle.mc_serve.specs.Seats.{SeatHolds, seat_at}
use Rattle.mc_serve.proofs.reactor.Reactor.run.Given as goal

abbrev pub invariant-loop : goal.invariant-loop
invariant-loop g l = record {
  next : (goal.iterator-loop g).can_next l.iterator' × (goal.iterator-loop g).is_finite l.iterator';
  clock : l.self.clock ≡ l.fn.self.clock;
  seats : Zips (λ was one. SeatHolds (λ line. g.D.Transport.Transport.place line)
      (λ line. g.D.Transport.Transport.sight line) l.fn.self.sizes.shards
      (rules_of l.fn.self.sizes) (g.K.Clock.may_answer l.self.clock) was (g.D.ConnectionSource.flow one.source)
      one.session one.slot_state)
      (map (λ one. seat_at (g.D.ConnectionSource.flow one.source) (seat_ends one.session) (seat_clerk one.session))
      l.fn.self.seats.all.items) l.self.seats.all.items;
}
