-- At rest all commands are taken, and the window has room.
use Rattle.mc_laws.proofs.Fairness.{takes_bytes}
use Rattle.mc_laws.proofs.progress.bytes_are_taken_at_rest.Goals as goal

pub returns : goal.returns
returns c sizes events w within schedule = takes_bytes sizes w within
