-- A header has its name and the four counts.
use Rattle.std.proofs.Common.{arith}
use Rattle.std.proofs.lemmas.Grind.{common_steps}
use Rattle.mc_replay.proofs.header.read_header.Goals as goal

pub returns-in-Some-sim-Some-Some-Some-Some : goal.returns-in-Some-sim-Some-Some-Some-Some
returns-in-Some-sim-Some-Some-Some-Some c = grind (arith, common_steps)
