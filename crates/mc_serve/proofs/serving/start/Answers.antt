-- One part more takes the first of what is left.
use Rattle.std.proofs.Common.{◌≡◌, ◌∙◌, refl}
use Rattle.std.specs.List.{flat_map}
use Rattle.std.specs.Vec.Iter.{into_iter_items}
use Rattle.mc_sizes.specs.Sizes.{rules_of}
use Rattle.mc_session.proofs.Orders.{all_more, order_all}
use Rattle.mc_serve.specs.Seats.{IsNewSeat}
use Rattle.mc_serve.proofs.Parts.{all_parted, flat_more}
use Rattle.mc_serve.proofs.RingsSent.{part_send}
use denote.Exit.{no}
use denote.Param.{copied, param}
use denote.Param.Send.{arg_send, param_send, sendable}
use Rattle.mc_serve.proofs.serving.start.Goals as goal

pub loop-poller-init : goal.loop-poller-init
loop-poller-init g c =
    let made = c.in_ok-left.ensures in
    rw c.requires.none (record {
      witness = made.witness;
      clerks = made.clerks;
      fit = made.fit;
      sources = made.sources;
      same = tt;
      begin = made.begin;
    })

pub loop-poller-preserved : goal.loop-poller-preserved
loop-poller-preserved g c =
    let was = c.loop-poller.invariant in
    let made = c.in_ok-part.ensures in
    let part = c.in_ok-part.part in
    let grown = c.in_ok-start.ensures.ok in
    let seats = flat_more c.loop-poller.thread_group _ (λ part. part.seats.all.items) part part.seats.all.items _ _ _
    grown refl made.seats refl in
    record {
      witness = made.witness ∙ was.witness;
      clerks = rw seats was.clerks;
      fit = rw seats was.fit;
      sources = rw seats was.sources;
      same =
          all_more (λ part. (part.clock ≡ c.args.clock) × (part.sizes ≡ c.args.sizes)) c.loop-poller.thread_group _ part
          grown was.same (made.clock, made.sizes);
      begin =
          (all_parted part.seats.all.items (into_iter_items c.next_part.new.self.seats)
          (into_iter_items c.loop-poller.left.seats)
          (λ one. IsNewSeat c.args.sizes.shards (rules_of c.args.sizes) (g.D.ConnectionSource.flow one.source)
          one.session one.slot_state) made.seats was.begin).1;
    }

pub returns-then-is_empty : goal.returns-then-is_empty
returns-then-is_empty g c =
    let was = c.loop-poller.invariant in
    let seats = order_all (flat_map (λ part. part.seats.all.items) c.loop-poller.thread_group)
    (into_iter_items c.loop-poller.left.seats) _ (c.if-is_empty.ensures refl) refl in
    record {
      witness = c.into_witness.ensures ∙ was.witness;
      clerks = rw seats was.clerks;
      fit = rw seats was.fit;
      sources = rw seats was.sources;
      same = was.same;
    }

pub new-requires : goal.new-requires
new-requires g c =
    let given = c.requires in
    record {
      sizes = given.sizes;
      seats = given.seats;
      opening = given.opening;
      history = given.history;
      free = given.free;
    }

pub next_part-requires : goal.next_part-requires
next_part-requires g c = record { begin = c.loop-poller.invariant.begin }

pub returns : goal.returns
returns g c = record { witness = tt; clerks = tt; fit = tt; sources = tt; same = tt }

pub start-requires-send-T : goal.start-requires-send-T
start-requires-send-T g c κs within =
    let bounds = c.type_bounds in
    param_send 0 _
    (arg_send _ no _
    (part_send (param 1 g.row.D) (param 4 g.row.D-Transport) _ _ _ _ _ (search (bounds.send-D, sendable))
    (search (bounds.send-D-Transport, sendable)) (param 2 g.row.G) (copied 3 g.row.K)
    (search (bounds.send-G, sendable)) (search (bounds.sync-G, sendable)) (search (bounds.send-K, sendable))))
