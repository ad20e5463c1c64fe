-- The part takes the first of what is left.
use Rattle.std.proofs.Common.{◌≡◌, refl}
use Rattle.std.specs.Vec.Iter.{into_iter_items}
use Rattle.mc_sizes.specs.Sizes.{rules_of}
use Rattle.mc_serve.specs.Seats.{IsNewSeat}
use Rattle.mc_serve.proofs.Parts.{all_parted}
use Rattle.mc_serve.proofs.Zipped.{if_ok}
use Rattle.mc_serve.proofs.serving.Unassigned.next_part.Goals as goal

pub new-requires : goal.new-requires
new-requires g c =
    (all_parted c.in_ok-seats.seats.items (into_iter_items c.take_some.new.left) _
    (λ one. IsNewSeat c.args.sizes.shards (rules_of c.args.sizes) (g.D.ConnectionSource.flow one.source) one.session
    one.slot_state) c.in_ok-seats.ensures c.requires.begin).0

pub returns : goal.returns
returns g c =
    let made = c.new.ensures in
    record {
      ready = made.ready;
      seats =
          if_ok c.new.result (λ part. part.seats.all ≡ c.in_ok-seats.seats) _
          (λ part same. rw same c.in_ok-seats.ensures) made.seats;
      sizes = made.sizes;
      clock = made.clock;
      witness = refl;
    }
