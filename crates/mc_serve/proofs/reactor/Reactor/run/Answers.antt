-- Each turn steps the slots, before the workers and after them.
use Rattle.std.proofs.Common.{map, refl}
use Rattle.mc_sizes.specs.Sizes.{rules_of}
use Rattle.mc_session.specs.Session.{seat_clerk, seat_ends}
use Rattle.mc_serve.specs.Seats.{seat_at}
use Rattle.mc_serve.proofs.Parts.{seats_begin, seats_over}
use Rattle.mc_serve.proofs.reactor.Reactor.run.Goals as goal

pub loop-init : goal.loop-init
loop-init g c =
    let sizes = c.args.self.now.sizes in
    record {
      next = (tt, tt);
      clock = refl;
      seats =
          seats_begin c.args.self.now.seats.all.items (λ line. g.D.Transport.Transport.place line)
          (λ line. g.D.Transport.Transport.sight line)
          (λ one. g.D.ConnectionSource.flow one.source) (λ one. one.session) (λ one. one.slot_state) sizes.shards
          (rules_of sizes) (g.K.Clock.may_answer c.args.self.now.clock) c.requires;
    }

pub step-stepped-requires : goal.step-stepped-requires
step-stepped-requires g c =
    let sizes = c.args.self.now.sizes in (
      sizes.shards,
      rules_of sizes,
      map (λ one. seat_at (g.D.ConnectionSource.flow one.source) (seat_ends one.session) (seat_clerk one.session))
          c.args.self.now.seats.all.items,
      c.loop.invariant.seats,
    )

pub step-answered-requires : goal.step-answered-requires
step-answered-requires g c =
    let sizes = c.args.self.now.sizes in
    let were = map (λ one. seat_at (g.D.ConnectionSource.flow one.source) (seat_ends one.session)
    (seat_clerk one.session))
    c.args.self.now.seats.all.items in (
      sizes.shards,
      rules_of sizes,
      were,
      c.step-stepped.ensures sizes.shards (rules_of sizes) were c.loop.invariant.seats,
    )

pub loop-preserved-then-answered : goal.loop-preserved-then-answered
loop-preserved-then-answered g c =
    let sizes = c.args.self.now.sizes in
    let were = map (λ one. seat_at (g.D.ConnectionSource.flow one.source) (seat_ends one.session)
    (seat_clerk one.session))
    c.args.self.now.seats.all.items in
    record {
      next = (tt, tt);
      clock = c.loop.invariant.clock;
      seats =
          c.step-answered.ensures sizes.shards (rules_of sizes) were
          (c.step-stepped.ensures sizes.shards (rules_of sizes) were c.loop.invariant.seats);
    }

pub loop-preserved : goal.loop-preserved
loop-preserved g c =
    let sizes = c.args.self.now.sizes in
    let were = map (λ one. seat_at (g.D.ConnectionSource.flow one.source) (seat_ends one.session)
    (seat_clerk one.session))
    c.args.self.now.seats.all.items in
    record {
      next = (tt, tt);
      clock = c.loop.invariant.clock;
      seats =
          c.step-answered.ensures sizes.shards (rules_of sizes) were
          (c.step-stepped.ensures sizes.shards (rules_of sizes) were c.loop.invariant.seats);
    }

pub returns-then-is_done : goal.returns-then-is_done
returns-then-is_done g c =
    let sizes = c.args.self.now.sizes in
    let were = map (λ one. seat_at (g.D.ConnectionSource.flow one.source) (seat_ends one.session)
    (seat_clerk one.session))
    c.args.self.now.seats.all.items in
    rw (← c.loop.invariant.clock)
    (seats_over c.step-answered.new.self.all.items were (λ line. g.D.Transport.Transport.place line)
    (λ line. g.D.Transport.Transport.sight line)
    (λ one. g.D.ConnectionSource.flow one.source) (λ one. one.session) (λ one. one.slot_state) sizes.shards
    (rules_of sizes) (g.K.Clock.may_answer c.loop.self.clock)
    (c.if-is_done.ensures refl)
    (c.step-answered.ensures sizes.shards (rules_of sizes) were
    (c.step-stepped.ensures sizes.shards (rules_of sizes) were c.loop.invariant.seats)))
