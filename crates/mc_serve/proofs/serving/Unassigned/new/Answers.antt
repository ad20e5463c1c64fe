-- The slots and the workers are over new channels.
use Rattle.std.proofs.Common.{◌≡◌, ◌∙◌, ap, length}
use Rattle.mc_model.proofs.Lists.{all_from}
use Rattle.mc_session.proofs.Fresh.{all_fresh}
use Rattle.mc_serve.specs.Recorded.{IsRecorderOf}
use Rattle.mc_serve.proofs.Recording.{histories_fit}
use Rattle.mc_serve.proofs.Zipped.{zips_each}
use Rattle.mc_serve.proofs.serving.Unassigned.new.Goals as goal

pub make_recorded_workers-requires-clause-sizes : goal.make_recorded_workers-requires-clause-sizes
make_recorded_workers-requires-clause-sizes g c = c.requires.sizes.shards

pub make_slots-requires-clause-sizes : goal.make_slots-requires-clause-sizes
make_slots-requires-clause-sizes g c = c.requires.sizes.lines

pub make_recorded_workers-requires-clause-fresh : goal.make_recorded_workers-requires-clause-fresh
make_recorded_workers-requires-clause-fresh g c =
    all_fresh _ _ _ c.in_ok-near.field-0.near.items c.in_ok-near.field-0.far.items c.in_ok-near.ensures.channels

pub make_recorded_workers-requires-clause-records : goal.make_recorded_workers-requires-clause-records
make_recorded_workers-requires-clause-records g c =
    zips_each (IsRecorderOf c.args.sizes) _ c.in_ok-near.field-0.far.items c.in_ok-near.field-0.recorders.items
    c.in_ok-near.ensures.recorders (λ i ends recorder here there is keeps. is)

pub make_slots-requires-clause-width : goal.make_slots-requires-clause-width
make_slots-requires-clause-width g c =
    all_from (λ seat. length seat.channels ≡ c.args.sizes.shards) c.in_ok-near.field-0.near.items
    (λ i seat here. (c.in_ok-near.ensures.channels.each_seat i seat here).counted)

pub make_slots-requires-clause-history : goal.make_slots-requires-clause-history
make_slots-requires-clause-history g c =
    rw c.in_ok-near.ensures.opened
    (histories_fit (λ source. g.D.ConnectionSource.history source) c.args.opening.witness.name c.args.sizes.seats
    c.args.sources.items c.args.opening.clerks.items c.requires.seats c.requires.opening.clerks_are c.requires.history)

pub returns : goal.returns
returns g c =
    let was = c.in_ok-seats.ensures in
    let left = c.into_iter.ensures.rest in
    record {
      witness = c.in_ok-near.ensures.witness;
      clerks = rw left (was.clerks ∙ ap (λ clerks. clerks.items) c.in_ok-near.ensures.opened);
      fit = rw left was.fit;
      sources = rw left was.sources;
      begin = rw left was.begin;
    }
