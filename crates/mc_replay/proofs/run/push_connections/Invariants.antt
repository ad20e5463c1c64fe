-- The text has the lines of the connections so far, and lacks those of the others.
use Rattle.std.proofs.Common.{◌≡◌, ◌++◌, drop}
use Rattle.mc_sizes.specs.declared.sizes.Sizes.{Sizes}
use Rattle.mc_model.specs.World.{World}
use Rattle.mc_sim.specs.Stands.{Stands}
use Rattle.mc_replay.specs.Replay.{connection_lines}
use Rattle.mc_replay.proofs.run.push_connections.Given as goal

abbrev pub invariant-loop-number : goal.invariant-loop-number
invariant-loop-number l =
    (sizes : Sizes) (w : World) → Stands sizes l.sim w
    → l.text.items ++ connection_lines sizes w l.number (drop l.number w.links) ≡ l.fn.text.items
    ++ connection_lines sizes w 0 w.links
