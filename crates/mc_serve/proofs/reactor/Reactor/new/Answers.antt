-- The slots are those that were handed over.
use Rattle.std.proofs.Common.{ap, refl}
use Rattle.mc_sizes.specs.Sizes.{rules_of}
use Rattle.mc_serve.specs.Seats.{IsNewSeat}
use Rattle.mc_serve.proofs.Parts.{all_renamed}
use Rattle.mc_serve.proofs.reactor.Reactor.new.Goals as goal

pub returns-clause-ready : goal.returns-clause-ready
returns-clause-ready g c =
    all_renamed c.args.seats.items c.new.result.all.items c.args.sizes c.args.sizes
    (λ sizes one. IsNewSeat sizes.shards (rules_of sizes) (g.D.ConnectionSource.flow one.source) one.session
    one.slot_state) refl (ap (λ all. all.items) c.new.ensures) c.requires
