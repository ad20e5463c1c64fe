use Rattle.std.proofs.Common.{[], ◌∷◌}
use Rattle.mc_history.proofs.actor.Actor.add.Given as goal

-- the event that is added
abbrev pub ghosts-note : goal.ghosts-note
ghosts-note g a = record { events = g.event ∷ [] }
