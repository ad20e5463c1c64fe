-- Of two shards, by the parity.
use Rattle.std.proofs.Common.{◌∙◌, ap}
use Rattle.mc_wire.specs.internal.Parity.{parity_of}
use Rattle.mc_wire.proofs.Places.{place_of_two}
use Rattle.mc_wire.proofs.key.Key.place.Goals as goal

pub returns-in-2 : goal.returns-in-2
returns-in-2 c = rw c.in-2.is (c.parity.ensures ∙ (ap parity_of c.bytes.ensures.value ∙ place_of_two c.args.self.now))
